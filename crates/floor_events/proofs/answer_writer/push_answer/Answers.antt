use Rattle.std.proofs.Common.{rules}
use Rattle.floor_events.proofs.answer_writer.push_answer.Goals as goal

pub returns-in-No-clause-ok : goal.returns-in-No-clause-ok
returns-in-No-clause-ok c = search rules
