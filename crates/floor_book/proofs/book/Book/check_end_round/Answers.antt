use Rattle.std.proofs.Common.{◌∙◌, sym, ap}
use Rattle.rulebook.specs.Checks.{first_that_holds}
use Rattle.hand_rounds.specs.Rounds.{round_checks}
use Rattle.tournament_rules.specs.Books.{BookState}
use Rattle.tournament_rules.specs.Checks.{going_checks, over_checks, end_round_checks}
use Rattle.floor_book.proofs.Joins.{checked_on}
use Rattle.floor_book.proofs.MoveChecks.{found_second, found_rest}
use Rattle.floor_book.proofs.book.Book.check_end_round.Goals as goal

pub returns-in_err-may_close : goal.returns-in_err-may_close
returns-in_err-may_close c =
    let book = c.args.self.now in
    let found = sym (ap (λ (book : BookState). first_that_holds (round_checks book.seating)) c.self.view_is)
    ∙ c.in_err-may_close.ensures in
    checked_on (end_round_checks book) c.in_err-may_close.field-0.0 c.from_residual-in_err-may_close.result
    (found_second (going_checks book) (round_checks book.seating) (over_checks book) c.in_err-may_close.field-0.0
    c.in_ok-check_going.ensures found) c.from_residual-in_err-may_close.ensures.0
    c.from_residual-in_err-may_close.ensures.1

pub returns : goal.returns
returns c =
    let book = c.args.self.now in
    let none = sym (ap (λ (book : BookState). first_that_holds (round_checks book.seating)) c.self.view_is)
    ∙ c.in_ok-may_close.ensures in
    found_rest (going_checks book) (round_checks book.seating) (over_checks book) c.check_not_over.result
    c.in_ok-check_going.ensures none c.check_not_over.ensures
