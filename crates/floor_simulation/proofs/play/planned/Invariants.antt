use Rattle.std.specs.Vec.Iter.{into_iter_items}
use Rattle.floor_simulation.proofs.PlanLines.{IsPlanning}
use Rattle.floor_simulation.proofs.play.planned.Given as goal

-- The lines that are left, and the end of the plan, are to be taken.
abbrev pub invariant-loop-line : goal.invariant-loop-line
invariant-loop-line l = IsPlanning l.plan l.tournament (into_iter_items l.line-iterator)
