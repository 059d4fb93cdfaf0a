use Rattle.std.proofs.Common.{◌≡◌, take, length}
use Rattle.std.specs.Prelude.{sum}
use Rattle.pot_layers.specs.PotTests.{total_of}
use Rattle.showdown.specs.Hands.{hands_of}
use Rattle.showdown.specs.Awards.{awards_of}
use Rattle.showdown.proofs.awarding.award.Given as goal

-- The pots so far are awarded.
abbrev pub invariant-loop-index : goal.invariant-loop-index
invariant-loop-index l = record {
  awards : l.awards ≡ awards_of (hands_of l.fn.game l.fn.board l.live) l.unit l.button l.seats (take l.index l.pots);
  ten : length l.awards ≡ 10;
  paid : sum l.awards ≡ total_of (take l.index l.pots);
}
