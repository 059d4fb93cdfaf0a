use Rattle.std.proofs.Common.{rules}
use Rattle.session_desk.proofs.asking.note.Goals as goal

pub returns-in-Err : goal.returns-in-Err
returns-in-Err c = search rules
