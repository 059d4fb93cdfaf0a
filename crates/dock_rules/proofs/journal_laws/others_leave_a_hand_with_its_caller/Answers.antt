use Rattle.dock_rules.proofs.Keeping.{has-kept}
use Rattle.dock_rules.proofs.journal_laws.others_leave_a_hand_with_its_caller.Goals as goal

pub returns : goal.returns
returns c = has-kept
