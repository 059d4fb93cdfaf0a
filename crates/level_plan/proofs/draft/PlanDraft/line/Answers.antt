use Rattle.std.proofs.Common.{rules}
use Rattle.level_plan.proofs.draft.PlanDraft.line.Goals as goal

pub returns-then-is_wrong-clause-kept : goal.returns-then-is_wrong-clause-kept
returns-then-is_wrong-clause-kept c = search rules
