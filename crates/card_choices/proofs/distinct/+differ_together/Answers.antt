use Rattle.std.proofs.Common.{arith}
use Rattle.std.proofs.lemmas.Grind.{common_steps}
use Rattle.card_choices.proofs.distinct.+differ_together.Goals as goal

pub returns-else-not-contains-2 : goal.returns-else-not-contains-2
returns-else-not-contains-2 c = grind (arith, common_steps)

pub returns-in-empty : goal.returns-in-empty
returns-in-empty c = grind (arith, common_steps)

pub returns-then-not-contains-2 : goal.returns-then-not-contains-2
returns-then-not-contains-2 c = grind (arith, common_steps)
