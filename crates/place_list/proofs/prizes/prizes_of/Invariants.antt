use Rattle.std.proofs.Common.{◌≡◌, ◌+◌, take}
use Rattle.std.specs.Prelude.{sum, map}
use Rattle.place_list.specs.Prizes.{part_of}
use Rattle.place_list.proofs.prizes.prizes_of.Given as goal

abbrev pub invariant-loop-share : goal.invariant-loop-share
invariant-loop-share l = record {
  parts : l.prizes.items ≡ map (part_of l.pool) (take l.share-index l.paid);
  whole : sum l.prizes.items + l.left ≡ l.pool;
}
