use Rattle.std.proofs.Common.{arith}
use Rattle.std.proofs.lemmas.Grind.{common_steps}
use Rattle.line_words.proofs.line_writer.WordWriteText.push_text.Goals as goal

pub returns-in-Number-clause-kept : goal.returns-in-Number-clause-kept
returns-in-Number-clause-kept c = grind (arith, common_steps)

pub returns-in-Text-clause-kept : goal.returns-in-Text-clause-kept
returns-in-Text-clause-kept c = grind (arith, common_steps)
