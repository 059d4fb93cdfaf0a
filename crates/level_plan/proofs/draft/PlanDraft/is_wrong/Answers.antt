use Rattle.std.proofs.Common.{rules}
use Rattle.level_plan.proofs.draft.PlanDraft.is_wrong.Goals as goal

pub returns-after-is_blind : goal.returns-after-is_blind
returns-after-is_blind c = search rules
