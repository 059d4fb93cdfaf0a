use Rattle.std.proofs.Common.{◌∙◌, ◌++◌}
use Rattle.std.specs.Prelude.{Some, None}
use Rattle.rulebook.proofs.Checks.{first_that_holds-later, first_that_holds-sooner}
use Rattle.tournament_rules.specs.Checks.{going_checks, known_checks, buy_checks, out_checks, reenter_checks}
use Rattle.floor_book.proofs.Joins.{checked_on}
use Rattle.floor_book.proofs.MoveChecks.{found_first, found_second, found_third}
use Rattle.floor_book.proofs.book.Book.check_reenter.Goals as goal

pub returns-in_err-check_going-clause-checked : goal.returns-in_err-check_going-clause-checked
returns-in_err-check_going-clause-checked c =
    let book = c.args.self.now in
    let found = c.in_err-check_going.field-0.0 in
    checked_on (reenter_checks book c.args.name c.args.table c.args.seat) found c.from_residual.result
    (first_that_holds-sooner (going_checks book ++ known_checks book c.args.name
    ++ buy_checks book c.args.table c.args.seat) (out_checks book c.args.name) found
    (found_first (going_checks book) (known_checks book c.args.name) (buy_checks book c.args.table c.args.seat) found
    c.in_err-check_going.ensures))
    c.from_residual.ensures.0 c.from_residual.ensures.1

pub returns-in_err-check_known-clause-checked : goal.returns-in_err-check_known-clause-checked
returns-in_err-check_known-clause-checked c =
    let book = c.args.self.now in
    let found = c.in_err-check_known.field-0.0 in
    checked_on (reenter_checks book c.args.name c.args.table c.args.seat) found
    c.from_residual-in_err-check_known.result
    (first_that_holds-sooner (going_checks book ++ known_checks book c.args.name
    ++ buy_checks book c.args.table c.args.seat) (out_checks book c.args.name) found
    (found_second (going_checks book) (known_checks book c.args.name) (buy_checks book c.args.table c.args.seat) found
    c.in_ok-check_going.ensures c.in_err-check_known.ensures))
    c.from_residual-in_err-check_known.ensures.0 c.from_residual-in_err-check_known.ensures.1

pub returns-in_err-place-clause-checked : goal.returns-in_err-place-clause-checked
returns-in_err-place-clause-checked c =
    let book = c.args.self.now in
    let found = c.in_err-place.field-0.0 in
    checked_on (reenter_checks book c.args.name c.args.table c.args.seat) found
    c.from_residual-in_err-place.result
    (first_that_holds-sooner (going_checks book ++ known_checks book c.args.name
    ++ buy_checks book c.args.table c.args.seat) (out_checks book c.args.name) found
    (found_third (going_checks book) (known_checks book c.args.name) (buy_checks book c.args.table c.args.seat)
    (Some found) c.in_ok-check_going.ensures c.in_ok-check_known.ensures c.in_err-place.ensures.checked))
    c.from_residual-in_err-place.ensures.0 c.from_residual-in_err-place.ensures.1

pub returns-in_err-check_out-clause-checked : goal.returns-in_err-check_out-clause-checked
returns-in_err-check_out-clause-checked c =
    let book = c.args.self.now in
    let found = c.in_err-check_out.field-0.0 in
    let none = found_third (going_checks book) (known_checks book c.args.name)
    (buy_checks book c.args.table c.args.seat) None c.in_ok-check_going.ensures c.in_ok-check_known.ensures
    c.in_ok-place.ensures.checked in
    checked_on (reenter_checks book c.args.name c.args.table c.args.seat) found
    c.from_residual-in_err-check_out.result
    (first_that_holds-later (going_checks book ++ known_checks book c.args.name
    ++ buy_checks book c.args.table c.args.seat) (out_checks book c.args.name) none ∙ c.in_err-check_out.ensures)
    c.from_residual-in_err-check_out.ensures.0 c.from_residual-in_err-check_out.ensures.1

pub returns-clause-checked : goal.returns-clause-checked
returns-clause-checked c =
    let book = c.args.self.now in
    let none = found_third (going_checks book) (known_checks book c.args.name)
    (buy_checks book c.args.table c.args.seat) None c.in_ok-check_going.ensures c.in_ok-check_known.ensures
    c.in_ok-place.ensures.checked in
    first_that_holds-later (going_checks book ++ known_checks book c.args.name
    ++ buy_checks book c.args.table c.args.seat) (out_checks book c.args.name) none ∙ c.in_ok-check_out.ensures
