use Rattle.std.proofs.Common.{◌∙◌, sym, ap, ℕ, ◌++◌}
use Rattle.std.specs.Prelude.{Some, None}
use Rattle.rulebook.specs.Checks.{first_that_holds}
use Rattle.tournament_rules.specs.Checks.{going_checks, both_open_checks, leaving_checks}
use Rattle.floor_book.proofs.Joins.{checked_on}
use Rattle.floor_book.proofs.MoveChecks.{found_first, found_second, found_third}
use Rattle.floor_book.proofs.book.Book.check_to_balance.Goals as goal

pub returns-in_err-check_going-clause-checked : goal.returns-in_err-check_going-clause-checked
returns-in_err-check_going-clause-checked c =
    let book = c.args.self.now in
    let both = both_open_checks book c.args.from c.args.to in
    checked_on (going_checks book ++ both ++ leaving_checks book c.args.from) c.in_err-check_going.field-0.0
    c.from_residual.result
    (found_first (going_checks book) both (leaving_checks book c.args.from) c.in_err-check_going.field-0.0
    c.in_err-check_going.ensures) c.from_residual.ensures.0 c.from_residual.ensures.1

pub returns-in_err-tables-clause-checked : goal.returns-in_err-tables-clause-checked
returns-in_err-tables-clause-checked c =
    let book = c.args.self.now in
    let both = both_open_checks book c.args.from c.args.to in
    checked_on (going_checks book ++ both ++ leaving_checks book c.args.from) c.in_err-tables.field-0.0
    c.from_residual-in_err-tables.result
    (found_second (going_checks book) both (leaving_checks book c.args.from) c.in_err-tables.field-0.0
    c.in_ok-check_going.ensures c.in_err-tables.ensures.checked) c.from_residual-in_err-tables.ensures.0
    c.from_residual-in_err-tables.ensures.1

pub returns-in_err-check_leaving-clause-checked : goal.returns-in_err-check_leaving-clause-checked
returns-in_err-check_leaving-clause-checked c =
    let book = c.args.self.now in
    let both = both_open_checks book c.args.from c.args.to in
    let found = sym (ap (λ (n : ℕ). first_that_holds (leaving_checks book n)) c.in_ok-tables.ensures.told.from_is)
    ∙ c.in_err-check_leaving.ensures in
    checked_on (going_checks book ++ both ++ leaving_checks book c.args.from) c.in_err-check_leaving.field-0.0
    c.from_residual-in_err-check_leaving.result
    (found_third (going_checks book) both (leaving_checks book c.args.from) (Some c.in_err-check_leaving.field-0.0)
    c.in_ok-check_going.ensures c.in_ok-tables.ensures.checked found) c.from_residual-in_err-check_leaving.ensures.0
    c.from_residual-in_err-check_leaving.ensures.1

pub returns-clause-checked : goal.returns-clause-checked
returns-clause-checked c =
    let book = c.args.self.now in
    let both = both_open_checks book c.args.from c.args.to in
    let none = sym (ap (λ (n : ℕ). first_that_holds (leaving_checks book n)) c.in_ok-tables.ensures.told.from_is)
    ∙ c.in_ok-check_leaving.ensures in
    found_third (going_checks book) both (leaving_checks book c.args.from) None c.in_ok-check_going.ensures
    c.in_ok-tables.ensures.checked none
