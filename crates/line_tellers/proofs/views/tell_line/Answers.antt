use Rattle.std.proofs.Common.{rules}
use Rattle.line_tellers.proofs.views.tell_line.Goals as goal

pub returns-in-Some-Event-clause-told : goal.returns-in-Some-Event-clause-told
returns-in-Some-Event-clause-told c = search rules
