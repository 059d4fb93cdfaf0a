use Rattle.std.proofs.Common.{rules}
use Rattle.level_plan.proofs.draft.PlanDraft.go.Goals as goal

pub returns-in-Some-clause-fault : goal.returns-in-Some-clause-fault
returns-in-Some-clause-fault c = search rules
