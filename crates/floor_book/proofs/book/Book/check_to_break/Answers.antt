use Rattle.std.proofs.Common.{◌∙◌, sym, ap, ℕ, ◌++◌}
use Rattle.std.specs.Prelude.{Some, None}
use Rattle.rulebook.specs.Checks.{first_that_holds}
use Rattle.tournament_rules.specs.Checks.{going_checks, open_table_checks, leaving_checks}
use Rattle.floor_book.proofs.Joins.{checked_on}
use Rattle.floor_book.proofs.MoveChecks.{found_first, found_second, found_third}
use Rattle.floor_book.proofs.book.Book.check_to_break.Goals as goal

pub returns-in_err-check_going-clause-checked : goal.returns-in_err-check_going-clause-checked
returns-in_err-check_going-clause-checked c =
    let book = c.args.self.now in
    let opened = open_table_checks book c.args.table in
    checked_on (going_checks book ++ opened ++ leaving_checks book c.args.table) c.in_err-check_going.field-0.0
    c.from_residual.result
    (found_first (going_checks book) opened (leaving_checks book c.args.table) c.in_err-check_going.field-0.0
    c.in_err-check_going.ensures) c.from_residual.ensures.0 c.from_residual.ensures.1

pub returns-in_err-table-clause-checked : goal.returns-in_err-table-clause-checked
returns-in_err-table-clause-checked c =
    let book = c.args.self.now in
    let opened = open_table_checks book c.args.table in
    checked_on (going_checks book ++ opened ++ leaving_checks book c.args.table) c.in_err-table.field-0.0
    c.from_residual-in_err-table.result
    (found_second (going_checks book) opened (leaving_checks book c.args.table) c.in_err-table.field-0.0
    c.in_ok-check_going.ensures c.in_err-table.ensures.checked) c.from_residual-in_err-table.ensures.0
    c.from_residual-in_err-table.ensures.1

pub returns-in_err-check_leaving-clause-checked : goal.returns-in_err-check_leaving-clause-checked
returns-in_err-check_leaving-clause-checked c =
    let book = c.args.self.now in
    let opened = open_table_checks book c.args.table in
    let found = sym (ap (λ (n : ℕ). first_that_holds (leaving_checks book n)) c.in_ok-table.ensures.same)
    ∙ c.in_err-check_leaving.ensures in
    checked_on (going_checks book ++ opened ++ leaving_checks book c.args.table) c.in_err-check_leaving.field-0.0
    c.from_residual-in_err-check_leaving.result
    (found_third (going_checks book) opened (leaving_checks book c.args.table) (Some c.in_err-check_leaving.field-0.0)
    c.in_ok-check_going.ensures c.in_ok-table.ensures.checked found) c.from_residual-in_err-check_leaving.ensures.0
    c.from_residual-in_err-check_leaving.ensures.1

pub returns-clause-checked : goal.returns-clause-checked
returns-clause-checked c =
    let book = c.args.self.now in
    let opened = open_table_checks book c.args.table in
    let none = sym (ap (λ (n : ℕ). first_that_holds (leaving_checks book n)) c.in_ok-table.ensures.same)
    ∙ c.in_ok-check_leaving.ensures in
    found_third (going_checks book) opened (leaving_checks book c.args.table) None c.in_ok-check_going.ensures
    c.in_ok-table.ensures.checked none
