use Rattle.std.proofs.Common.{◌∙◌, sym, ap, ℕ}
use Rattle.std.specs.Prelude.{Some, None}
use Rattle.rulebook.specs.Checks.{first_that_holds}
use Rattle.tournament_rules.specs.Checks.{open_table_checks, not_playing_checks, enough_checks, table_checks}
use Rattle.floor_book.proofs.Joins.{checked_on}
use Rattle.floor_book.proofs.MoveChecks.{found_first, found_second, found_third}
use Rattle.floor_book.proofs.book.Book.check_table.Goals as goal

pub returns-in_err-table-clause-checked : goal.returns-in_err-table-clause-checked
returns-in_err-table-clause-checked c =
    let book = c.args.self.now in
    let table = c.args.table in
    checked_on (table_checks book table) c.in_err-table.field-0.0 c.from_residual.result
    (found_first (open_table_checks book table) (not_playing_checks book table) (enough_checks book table)
    c.in_err-table.field-0.0 c.in_err-table.ensures.checked) c.from_residual.ensures.0 c.from_residual.ensures.1

pub returns-in_err-check_not_playing-clause-checked : goal.returns-in_err-check_not_playing-clause-checked
returns-in_err-check_not_playing-clause-checked c =
    let book = c.args.self.now in
    let table = c.args.table in
    let found = sym (ap (λ (n : ℕ). first_that_holds (not_playing_checks book n)) c.in_ok-table.ensures.same)
    ∙ c.in_err-check_not_playing.ensures in
    checked_on (table_checks book table) c.in_err-check_not_playing.field-0.0
    c.from_residual-in_err-check_not_playing.result
    (found_second (open_table_checks book table) (not_playing_checks book table) (enough_checks book table)
    c.in_err-check_not_playing.field-0.0 c.in_ok-table.ensures.checked found)
    c.from_residual-in_err-check_not_playing.ensures.0 c.from_residual-in_err-check_not_playing.ensures.1

pub returns-in_err-check_enough-clause-checked : goal.returns-in_err-check_enough-clause-checked
returns-in_err-check_enough-clause-checked c =
    let book = c.args.self.now in
    let table = c.args.table in
    let none = sym (ap (λ (n : ℕ). first_that_holds (not_playing_checks book n)) c.in_ok-table.ensures.same)
    ∙ c.in_ok-check_not_playing.ensures in
    let found = sym (ap (λ (n : ℕ). first_that_holds (enough_checks book n)) c.in_ok-table.ensures.same)
    ∙ c.in_err-check_enough.ensures.checked in
    checked_on (table_checks book table) c.in_err-check_enough.field-0.0 c.from_residual-in_err-check_enough.result
    (found_third (open_table_checks book table) (not_playing_checks book table) (enough_checks book table)
    (Some c.in_err-check_enough.field-0.0) c.in_ok-table.ensures.checked none found)
    c.from_residual-in_err-check_enough.ensures.0 c.from_residual-in_err-check_enough.ensures.1

pub returns-clause-checked : goal.returns-clause-checked
returns-clause-checked c =
    let book = c.args.self.now in
    let table = c.args.table in
    let none = sym (ap (λ (n : ℕ). first_that_holds (not_playing_checks book n)) c.in_ok-table.ensures.same)
    ∙ c.in_ok-check_not_playing.ensures in
    let enough = sym (ap (λ (n : ℕ). first_that_holds (enough_checks book n)) c.in_ok-table.ensures.same)
    ∙ c.in_ok-check_enough.ensures.checked in
    found_third (open_table_checks book table) (not_playing_checks book table) (enough_checks book table) None
    c.in_ok-table.ensures.checked none enough
