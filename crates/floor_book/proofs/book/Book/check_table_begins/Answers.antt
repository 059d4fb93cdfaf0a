use Rattle.std.proofs.Common.{◌++◌}
use Rattle.rulebook.proofs.Checks.{first_that_holds-sooner}
use Rattle.tournament_rules.specs.Checks.{going_checks, table_checks, due_checks, deck_checks, book_refusal}
use Rattle.floor_book.proofs.book.Book.check_table_begins.Goals as goal

pub returns-in-Err-clause-err : goal.returns-in-Err-clause-err
unfolding book_refusal
returns-in-Err-clause-err c = λ row.
    let book = c.args.self.now in
    let table = c.args.table in
    first_that_holds-sooner (going_checks book ++ table_checks book table ++ due_checks book table) (deck_checks row)
    c.in-Err.refusal c.in-Err.ensures.checked
