use Rattle.std.proofs.Common.{◌∙◌, sym, true, false, Some}
use Rattle.floor_text.specs.declared.refusal.Refusal.TheVariants.{NotFullest, NotShortest, EvenEnough}
use Rattle.balance_rule.specs.Balance.{is_even_enough, is_not_fullest, is_not_shortest}
use Rattle.tournament_events.specs.declared.event.Event.TheVariants.{Balance}
use Rattle.floor_director.proofs.NextOrders.{balance-between, balance-without_giver, balance-without_taker, giver-gives, last-free, last-held, moved-on, taker-takes}
use Rattle.floor_director.proofs.orders.owed_balance.Goals as goal

pub returns-in_err-from-clause-order : goal.returns-in_err-from-clause-order
returns-in_err-from-clause-order c =
    c.from_residual.ensures ∙ sym (balance-without_giver c.args.book.now (sym c.in_err-from.ensures.giver))

pub returns-in_err-to-clause-order : goal.returns-in_err-to-clause-order
returns-in_err-to-clause-order c =
    c.from_residual-in_err-to.ensures
    ∙ sym (balance-without_taker c.args.book.now (sym c.in_err-to.ensures.taker))

pub balance_order-requires-clause-from_open : goal.balance_order-requires-clause-from_open
balance_order-requires-clause-from_open c =
    (giver-gives c.args.book.now c.in_ok-from.from (sym c.in_ok-from.ensures.giver)).0

pub balance_order-requires-clause-to_open : goal.balance_order-requires-clause-to_open
balance_order-requires-clause-to_open c =
    (taker-takes c.args.book.now c.in_ok-to.to (sym c.in_ok-to.ensures.taker)).0

pub returns-in_default-clause-order : goal.returns-in_default-clause-order
returns-in_default-clause-order c =
    let seating = c.args.book.now in
    let from = c.in_ok-from.from in
    let to = c.in_ok-to.to in
    let even = last-held NotFullest NotShortest EvenEnough c.in_default.field-0 (is_not_fullest seating from)
    (is_not_shortest seating to) (is_even_enough seating from to)
    (giver-gives seating from (sym c.in_ok-from.ensures.giver)).1.1
    (taker-takes seating to (sym c.in_ok-to.ensures.taker)).1 c.in_default.ensures.checked in
    sym (balance-between seating from to true (sym c.in_ok-from.ensures.giver) (sym c.in_ok-to.ensures.taker) even)

pub returns-clause-order : goal.returns-clause-order
returns-clause-order c =
    let seating = c.args.book.now in
    let from = c.in_ok-from.from in
    let to = c.in_ok-to.to in
    let uneven = last-free NotFullest NotShortest EvenEnough (is_not_fullest seating from)
    (is_not_shortest seating to) (is_even_enough seating from to)
    (giver-gives seating from (sym c.in_ok-from.ensures.giver)).1.1
    (taker-takes seating to (sym c.in_ok-to.ensures.taker)).1 c.in-Ok.ensures.checked in
    (λ i. Some (Balance (c.from.ensures i) (c.from-2.ensures i)))
    ∙ sym (balance-between seating from to false (sym c.in_ok-from.ensures.giver) (sym c.in_ok-to.ensures.taker)
    uneven)

pub returns-clause-moved : goal.returns-clause-moved
returns-clause-moved c = λ from to same.
    moved-on c.args.book.now c.from.result c.from-2.result from to c.in_ok-from.from c.in_ok-to.to c.in-Ok._move
    c.from.ensures c.from-2.ensures same c.in-Ok.ensures.move_
