use Rattle.tournament_rules.specs.Checks.{going_checks, newcomer_checks, buy_checks, enter_checks}
use Rattle.floor_book.proofs.Joins.{checked_on}
use Rattle.floor_book.proofs.MoveChecks.{found_first, found_second, found_rest}
use Rattle.floor_book.proofs.book.Book.check_enter.Goals as goal

pub returns-in_err-check_going-clause-checked : goal.returns-in_err-check_going-clause-checked
returns-in_err-check_going-clause-checked c =
    let book = c.args.self.now in
    checked_on (enter_checks book c.args.name c.args.table c.args.seat) c.in_err-check_going.field-0.0
    c.from_residual.result
    (found_first (going_checks book) (newcomer_checks book c.args.name) (buy_checks book c.args.table c.args.seat)
    c.in_err-check_going.field-0.0 c.in_err-check_going.ensures)
    c.from_residual.ensures.0 c.from_residual.ensures.1

pub returns-in_err-check_newcomer-clause-checked : goal.returns-in_err-check_newcomer-clause-checked
returns-in_err-check_newcomer-clause-checked c =
    let book = c.args.self.now in
    checked_on (enter_checks book c.args.name c.args.table c.args.seat) c.in_err-check_newcomer.field-0.0
    c.from_residual-in_err-check_newcomer.result
    (found_second (going_checks book) (newcomer_checks book c.args.name) (buy_checks book c.args.table c.args.seat)
    c.in_err-check_newcomer.field-0.0 c.in_ok-check_going.ensures c.in_err-check_newcomer.ensures)
    c.from_residual-in_err-check_newcomer.ensures.0 c.from_residual-in_err-check_newcomer.ensures.1

pub returns-clause-checked : goal.returns-clause-checked
returns-clause-checked c =
    let book = c.args.self.now in
    found_rest (going_checks book) (newcomer_checks book c.args.name) (buy_checks book c.args.table c.args.seat)
    c.check_buy.result c.in_ok-check_going.ensures c.in_ok-check_newcomer.ensures c.check_buy.ensures.checked
