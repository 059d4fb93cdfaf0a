use Rattle.std.proofs.Common.{arith}
use Rattle.std.proofs.lemmas.Grind.{common_steps}
use Rattle.plan_files.proofs.lines.push_levels.Goals as goal

pub loop-blind-preserved : goal.loop-blind-preserved
loop-blind-preserved c = grind (arith, common_steps)

pub returns : goal.returns
returns c = grind (arith, common_steps)
