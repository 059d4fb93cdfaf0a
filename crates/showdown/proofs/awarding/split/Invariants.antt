use Rattle.std.proofs.Common.{◌≡◌, ◌+◌, drop, length}
use Rattle.std.specs.Prelude.{sum}
use Rattle.pot_layers.specs.Shares.{share_of, sum_below}
use Rattle.showdown.specs.Awards.{pay_in_turn}
use Rattle.showdown.proofs.awarding.split.Given as goal

-- What is left pays the same as the whole, and so far the shares of those paid are added.
abbrev pub invariant-loop-index : goal.invariant-loop-index
invariant-loop-index l = record {
  ten : length l.awards ≡ 10;
  left : pay_in_turn l.amount l.unit (length l.order) l.awards l.index (drop l.index l.order)
      ≡ pay_in_turn l.amount l.unit (length l.order) l.initial.awards 0 l.order;
  paid : sum l.awards ≡ sum l.initial.awards + sum_below (share_of l.amount l.unit (length l.order)) l.index;
}
