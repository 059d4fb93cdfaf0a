use Rattle.std.proofs.Common.{rules}
use Rattle.line_words.proofs.fields.read_act.Goals as goal

pub returns-then-is-2 : goal.returns-then-is-2
returns-then-is-2 c = search rules
