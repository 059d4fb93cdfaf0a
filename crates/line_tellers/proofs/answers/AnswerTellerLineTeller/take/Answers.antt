use Rattle.std.proofs.Common.{rules}
use Rattle.line_tellers.proofs.answers.AnswerTellerLineTeller.take.Goals as goal

pub returns-clause-told : goal.returns-clause-told
returns-clause-told c = search rules
