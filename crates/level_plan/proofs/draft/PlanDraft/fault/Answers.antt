use Rattle.std.proofs.Common.{rules}
-- The unit of a level of the draft is above 0.
use Rattle.level_plan.proofs.Levels.{unit_of_level_above}
use Rattle.level_plan.proofs.draft.PlanDraft.fault.Goals as goal

pub nonzero_rem-stack : goal.nonzero_rem-stack
nonzero_rem-stack c =
    rw (c.unit_of_level.ensures, c.items-blinds.ensures)
    (unit_of_level_above c.self.inside.blinds c.in-Some-late.late c.self.invariant.levels)

pub returns-then-late-blinds : goal.returns-then-late-blinds
returns-then-late-blinds c = search rules
