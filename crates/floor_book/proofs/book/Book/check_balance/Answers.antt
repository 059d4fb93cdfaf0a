use Rattle.std.proofs.Common.{arith, ap, subst, List, ◌++◌, Bool}
use Rattle.std.proofs.lemmas.Grind.{common_steps}
use Rattle.std.specs.Prelude.{Some, None}
use Rattle.floor_text.specs.declared.refusal.Refusal.{Refusal}
use Rattle.seat_book.specs.Places.{IsPlaceOf}
use Rattle.seat_book.specs.Seatings.{Seating}
use Rattle.balance_rule.specs.Balance.{balance_checks}
use Rattle.tournament_rules.specs.Books.{BookState}
use Rattle.tournament_rules.specs.Checks.{going_checks, both_open_checks, leaving_checks, round_checks, all_balance_checks}
use Rattle.floor_book.proofs.Joins.{checked_on}
use Rattle.floor_book.proofs.Moved.{mover-sits, sits-within}
use Rattle.floor_book.proofs.MoveChecks.{found_first, found_second, found_third, balance_read, move_read}
use Rattle.floor_book.proofs.book.Book.check_balance.Goals as goal

pub returns-in_err-tables-clause-checked : goal.returns-in_err-tables-clause-checked
returns-in_err-tables-clause-checked c =
    let book = c.args.self.now in
    let front : List (Refusal × Bool) = going_checks book
    ++ both_open_checks book c.args.from c.args.to ++ leaving_checks book c.args.from in
    checked_on (all_balance_checks book c.args.from c.args.to) c.in_err-tables.field-0.0 c.from_residual.result
    (found_first front (balance_checks book.seating c.args.from c.args.to) (round_checks book) c.in_err-tables.field-0.0
    c.in_err-tables.ensures.checked) c.from_residual.ensures.0 c.from_residual.ensures.1

pub returns-in_err-move_-clause-checked : goal.returns-in_err-move_-clause-checked
returns-in_err-move_-clause-checked c =
    let book = c.args.self.now in
    let front : List (Refusal × Bool) = going_checks book
    ++ both_open_checks book c.args.from c.args.to ++ leaving_checks book c.args.from in
    let found = balance_read _ book.seating _ c.args.from _ c.args.to (Some c.in_err-move_.field-0.0)
    (ap (λ (book : BookState). book.seating) c.self.view_is) c.in_ok-tables.ensures.told.from_is c.in_ok-tables.ensures.told.to_is
    c.in_err-move_.ensures.checked in
    checked_on (all_balance_checks book c.args.from c.args.to) c.in_err-move_.field-0.0
    c.from_residual-in_err-move_.result
    (found_second front (balance_checks book.seating c.args.from c.args.to) (round_checks book)
    c.in_err-move_.field-0.0 c.in_ok-tables.ensures.checked found) c.from_residual-in_err-move_.ensures.0
    c.from_residual-in_err-move_.ensures.1

pub returns-in_err-check_round-clause-checked : goal.returns-in_err-check_round-clause-checked
returns-in_err-check_round-clause-checked c =
    let book = c.args.self.now in
    let front : List (Refusal × Bool) = going_checks book
    ++ both_open_checks book c.args.from c.args.to ++ leaving_checks book c.args.from in
    let none = balance_read _ book.seating _ c.args.from _ c.args.to None
    (ap (λ (book : BookState). book.seating) c.self.view_is) c.in_ok-tables.ensures.told.from_is c.in_ok-tables.ensures.told.to_is
    c.in_ok-move_.ensures.checked in
    checked_on (all_balance_checks book c.args.from c.args.to) c.in_err-check_round.field-0.0
    c.from_residual-in_err-check_round.result
    (found_third front (balance_checks book.seating c.args.from c.args.to) (round_checks book)
    (Some c.in_err-check_round.field-0.0) c.in_ok-tables.ensures.checked none c.in_err-check_round.ensures)
    c.from_residual-in_err-check_round.ensures.0 c.from_residual-in_err-check_round.ensures.1

pub returns-clause-checked : goal.returns-clause-checked
returns-clause-checked c =
    let book = c.args.self.now in
    let front : List (Refusal × Bool) = going_checks book
    ++ both_open_checks book c.args.from c.args.to ++ leaving_checks book c.args.from in
    let none = balance_read _ book.seating _ c.args.from _ c.args.to None
    (ap (λ (book : BookState). book.seating) c.self.view_is) c.in_ok-tables.ensures.told.from_is c.in_ok-tables.ensures.told.to_is
    c.in_ok-move_.ensures.checked in
    found_third front (balance_checks book.seating c.args.from c.args.to) (round_checks book) None
    c.in_ok-tables.ensures.checked none c.in_ok-check_round.ensures

pub returns-clause-move_ : goal.returns-clause-move_
returns-clause-move_ c =
    move_read _ c.args.self.now.seating _ c.args.from _ c.args.to c.in_ok-move_.move_
    (ap (λ (book : BookState). book.seating) c.self.view_is) c.in_ok-tables.ensures.told.from_is c.in_ok-tables.ensures.told.to_is
    c.in_ok-move_.ensures.move_

pub returns-clause-sits : goal.returns-clause-sits
returns-clause-sits c =
    mover-sits c.args.self.now.seating c.args.from c.args.to c.in_ok-move_.move_
    (move_read _ c.args.self.now.seating _ c.args.from _ c.args.to c.in_ok-move_.move_
    (ap (λ (book : BookState). book.seating) c.self.view_is) c.in_ok-tables.ensures.told.from_is c.in_ok-tables.ensures.told.to_is
    c.in_ok-move_.ensures.move_)

pub returns-clause-here : goal.returns-clause-here
returns-clause-here c =
    subst (λ (seating : Seating). IsPlaceOf seating.table_count seating.seat_count c.in_ok-move_.move_.from)
    (ap (λ (book : BookState). book.seating) c.self.view_is)
    (sits-within _ c.in_ok-move_.move_.player c.in_ok-move_.move_.from c.self.invariant.tables.lawful
    c.in_ok-move_.ensures.sits)

pub balance_order-requires-clause-from_open : goal.balance_order-requires-clause-from_open
balance_order-requires-clause-from_open c = grind (arith, common_steps)

pub balance_order-requires-clause-to_open : goal.balance_order-requires-clause-to_open
balance_order-requires-clause-to_open c = grind (arith, common_steps)
