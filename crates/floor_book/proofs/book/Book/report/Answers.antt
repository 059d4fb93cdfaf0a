use Rattle.std.proofs.Common.{arith}
use Rattle.std.proofs.lemmas.Grind.{common_steps}
use Rattle.floor_book.proofs.book.Book.report.Goals as goal

pub all_reported-requires : goal.all_reported-requires
all_reported-requires c = grind (arith, common_steps)
