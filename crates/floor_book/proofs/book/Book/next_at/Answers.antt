use Rattle.std.proofs.Common.{arith}
use Rattle.std.proofs.lemmas.Grind.{common_steps}
use Rattle.floor_book.proofs.book.Book.next_at.Goals as goal

pub next_marks-requires-clause-players : goal.next_marks-requires-clause-players
next_marks-requires-clause-players c = grind (arith, common_steps)
