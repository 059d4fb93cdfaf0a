use Rattle.std.proofs.Common.{◌++◌}
use Rattle.rulebook.proofs.Checks.{first_that_holds-sooner}
use Rattle.tournament_rules.specs.Checks.{going_checks, table_checks, due_checks, deck_checks, begin_checks}
use Rattle.floor_book.proofs.Joins.{checked_on}
use Rattle.floor_book.proofs.book.Book.ready.Goals as goal

pub returns-in_err-table-clause-checked : goal.returns-in_err-table-clause-checked
returns-in_err-table-clause-checked c =
    let book = c.args.self.now in
    let table = c.args.table in
    checked_on (begin_checks book table c.args.row.now) c.in_err-table.field-0.0 c.from_residual.result
    (first_that_holds-sooner (going_checks book ++ table_checks book table ++ due_checks book table)
    (deck_checks c.args.row.now) c.in_err-table.field-0.0 c.in_err-table.ensures.checked)
    c.from_residual.ensures.0 c.from_residual.ensures.1
