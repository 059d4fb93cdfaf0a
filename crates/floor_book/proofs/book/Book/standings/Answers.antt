use Rattle.std.proofs.Common.{arith}
use Rattle.std.proofs.lemmas.Grind.{common_steps}
use Rattle.floor_book.proofs.book.Book.standings.Goals as goal

pub standings-requires-clause-buyin : goal.standings-requires-clause-buyin
standings-requires-clause-buyin c = grind (arith, common_steps)

pub standings-requires-clause-shares : goal.standings-requires-clause-shares
standings-requires-clause-shares c = grind (arith, common_steps)
