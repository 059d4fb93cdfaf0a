use Rattle.std.proofs.Common.{rules}
use Rattle.line_words.proofs.text.whole_or_nothing.Goals as goal

pub returns-then-is_err-clause-err : goal.returns-then-is_err-clause-err
returns-then-is_err-clause-err c = search rules
