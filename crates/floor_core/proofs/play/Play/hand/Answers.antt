use Rattle.std.proofs.Common.{arith}
use Rattle.std.proofs.lemmas.Grind.{common_steps}
use Rattle.floor_core.proofs.play.Play.hand.Goals as goal

pub returns-in_err-get-clause-hand : goal.returns-in_err-get-clause-hand
returns-in_err-get-clause-hand c = grind (arith, common_steps)
