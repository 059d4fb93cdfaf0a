use Rattle.std.proofs.Common.{arith}
use Rattle.std.proofs.lemmas.Grind.{common_steps}
use Rattle.session_desk.proofs.inbox.Inbox.take.Goals as goal

pub returns-clause-told : goal.returns-clause-told
returns-clause-told c = grind (arith, common_steps)

pub returns-clause-unread : goal.returns-clause-unread
returns-clause-unread c = grind (arith, common_steps)
