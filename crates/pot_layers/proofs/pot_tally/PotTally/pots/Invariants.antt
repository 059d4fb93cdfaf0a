use Rattle.std.specs.Prelude.{count_by}
use Rattle.pot_layers.specs.Reaches.{is_above}
use Rattle.pot_layers.proofs.Cuts.{IsCut}
use Rattle.pot_layers.proofs.pot_tally.PotTally.pots.Given as goal

-- The heights up to the last amount are cut.
abbrev pub invariant-loop-next : goal.invariant-loop-next
invariant-loop-next l = IsCut l.self-inside.reaches l.pots l.below l.paid

-- The live players who are still above.
abbrev pub decreases-loop-next : goal.decreases-loop-next
decreases-loop-next l = count_by (is_above l.below) l.self-inside.reaches
