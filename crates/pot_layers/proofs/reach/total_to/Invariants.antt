use Rattle.std.proofs.Common.{◌≡◌, take, min}
use Rattle.std.specs.Prelude.{sum_by}
use Rattle.pot_layers.proofs.reach.total_to.Given as goal

abbrev pub invariant-loop-reach : goal.invariant-loop-reach
invariant-loop-reach l = l.total ≡ sum_by (λ reach. min reach.put.amount l.height)
    (take l.reach-index l.reaches)
