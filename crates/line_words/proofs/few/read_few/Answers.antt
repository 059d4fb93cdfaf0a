use Rattle.std.proofs.Common.{arith}
use Rattle.std.proofs.lemmas.Grind.{common_steps}
use Rattle.line_words.proofs.few.read_few.Goals as goal

pub loop-word-preserved : goal.loop-word-preserved
loop-word-preserved c = grind (arith, common_steps)

pub returns-then-is_full : goal.returns-then-is_full
returns-then-is_full c = grind (arith, common_steps)
