-- Orders that are owed come to an end.
use Rattle.std.proofs.Common.{◌≡◌, ℕ, ◌<◌, ◌≤◌, ap, false, List, arith}
use Rattle.std.specs.Prelude.{Option, Some, None, is_none}
use Rattle.std.specs.Option.{option_map_or}
use Rattle.std.proofs.lemmas.List.Sums.{count_by-le-length}
use Rattle.rulebook.proofs.Walks.{length-walk}
use Rattle.seat_book.specs.Counts.{is_open, table_numbers}
use Rattle.seat_book.specs.Seatings.{Seating, IsSeating}
use Rattle.balance_rule.specs.declared.balance.Move.{Move}
use Rattle.balance_rule.specs.Balance.{after_move}
use Rattle.tournament_events.specs.declared.event.Event.{Event}
use Rattle.tournament_events.specs.declared.event.Event.TheVariants as events
use Rattle.floor_director.specs.Orders.{next_order}
use Rattle.floor_director.proofs.Spreading.{spread-few}
use Rattle.tournament_rules.specs.Books.{BookState}
use Rattle.tournament_rules.specs.Checks.{book_refusal}
use Rattle.tournament_rules.specs.Effects.{book_effect}
use Rattle.tournament_rules.specs.States.{book_after}
use Rattle.tournament_rules.specs.Valid.{IsValid}
use Rattle.tournament_rules.proofs.Balances.{balance_passed}
use Rattle.tournament_rules.proofs.Breaks.{break_passed, valid_broken}
use Rattle.tournament_rules.proofs.MoveLaws.{balance_lawful}
use Rattle.simulation_rules.specs.Effort.{effort_of_orders, open_tables}
use Rattle.simulation_rules.proofs.OrderKinds.{IsOrder, order-kind}
use Rattle.simulation_rules.proofs.OrdersAccepted.{owed_order_is_accepted}
use Rattle.simulation_rules.proofs.OrdersFall.{orders-balanced, orders-broken}

-- A balance or a break that is taken leaves less to order.
taken_falls : (book : BookState) (order : Event) → IsValid book → book_refusal book order ≡ None
    → IsOrder (Some order)
    → effort_of_orders (book_effect book None order).seating < effort_of_orders book.seating
taken_falls book (events.Balance from to) valid free is =
    let moves = balance_lawful book from to valid (balance_passed book from to free) in
    let seats : (book_effect book None (events.Balance from to)).seating ≡ after_move moves.0 book.seating =
    ap (λ (found : Option Move). option_map_or (λ move_. after_move move_ book.seating) found book.seating)
    moves.1.lawful.carried in
    let same = ap effort_of_orders seats in
    let falls = orders-balanced book.seating from to moves.0 valid.tables.lawful moves.1 in
    omega (arith, same, falls)
taken_falls book (events.Break table seats names) valid free is =
    let may = break_passed book table seats names free in
    orders-broken book table seats names valid may (valid_broken book table seats names valid free).tables.lawful
taken_falls book order valid free is = absurd is

-- An order that is owed and taken leaves less to order.
pub owed_falls : (book : BookState) (seed : List ℕ) (number : ℕ) (order : Event) → IsValid book
    → book.stopped ≡ false → next_order book.seating seed number ≡ Some order
    → effort_of_orders (book_after book order).seating < effort_of_orders book.seating
owed_falls book seed number order valid going is =
    let free = owed_order_is_accepted book seed number order valid going is in
    let kind : IsOrder (Some order) = rw is at (order-kind book.seating seed number) in
    rw (ap is_none free) (taken_falls book order valid free kind)

-- There is never more to order than 416,064.
pub orders-few : (seating : Seating) → IsSeating seating → effort_of_orders seating ≤ 416064
unfolding effort_of_orders
orders-few seating valid =
    let most = valid.most_tables in
    let opened = count_by-le-length (is_open seating.players) (table_numbers seating.table_count) in
    let size = length-walk seating.table_count 0 in
    let uneven = spread-few seating valid in
    let few : open_tables seating ≤ 64 = omega (arith, most, opened, size) in
    omega (arith, few, uneven)
