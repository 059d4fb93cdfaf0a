use Rattle.std.proofs.Common.{arith}
use Rattle.std.proofs.lemmas.Grind.{common_steps}
use Rattle.floor_book.proofs.book.first_status.Goals as goal

pub returns-clause-lawful : goal.returns-clause-lawful
returns-clause-lawful c = grind (arith, common_steps)

pub returns-clause-status : goal.returns-clause-status
returns-clause-status c = grind (arith, common_steps)
