use Rattle.std.proofs.Common.{◌≡◌, ◌∙◌, refl, sym, ap, subst, true, false, Some, None, Option}
use Rattle.seat_book.specs.Seatings.{is_race_pending, is_round_open}
use Rattle.tournament_events.specs.declared.event.Event.{Event}
use Rattle.floor_director.specs.Orders.{first_order, owed_balance, owed_break}
use Rattle.floor_director.specs.Owed.{IsNextOrder}
use Rattle.floor_director.proofs.NextOrders.{IsBreakAnswer, balance-answer, break-answer, order-free, order-held}
use Rattle.floor_director.proofs.orders.next_order.Goals.{then-is_race_pending-via-then-is_race_pending, then-is_race_pending-via-else-is_race_pending+then-is_round_open}
use Rattle.floor_director.proofs.orders.next_order.Goals as goal

pub returns-then-is_race_pending-clause-order : goal.returns-then-is_race_pending-clause-order
returns-then-is_race_pending-clause-order c =
    sym (order-held c.args.book.now c.args.seed c.args.k (elim c.then-is_race_pending.branch [
      | then-is_race_pending-via-then-is_race_pending w ↦
          let races : is_race_pending c.args.book.now ≡ true = sym c.is_race_pending.ensures
          ∙ w.if-is_race_pending.true in rw races refl
      | then-is_race_pending-via-else-is_race_pending+then-is_round_open w ↦
          let races : is_race_pending c.args.book.now ≡ false = sym c.is_race_pending.ensures
          ∙ w.if-is_race_pending.false in
          let rounds : is_round_open c.args.book.now ≡ true = sym w.is_round_open.ensures
          ∙ w.if-is_round_open.true in rw (races, rounds) refl
    ]))

pub returns-in-Some-clause-order : goal.returns-in-Some-clause-order
returns-in-Some-clause-order c =
    let races : is_race_pending c.args.book.now ≡ false = sym c.is_race_pending.ensures ∙ c.if-is_race_pending.false in
    let rounds : is_round_open c.args.book.now ≡ false = sym c.is_round_open.ensures ∙ c.if-is_round_open.false in
    let owed : owed_break c.args.book.now c.args.seed c.args.k ≡ Some c.in-Some.order =
    sym c.in_ok-order.ensures ∙ c.in-Some.is in
    sym (order-free c.args.book.now c.args.seed c.args.k races rounds
    ∙ ap (λ (order : Option Event). first_order order (owed_balance c.args.book.now)) owed)

pub returns-in-Some-clause-rule : goal.returns-in-Some-clause-rule
returns-in-Some-clause-rule c =
    let races : is_race_pending c.args.book.now ≡ false = sym c.is_race_pending.ensures ∙ c.if-is_race_pending.false in
    let rounds : is_round_open c.args.book.now ≡ false = sym c.is_round_open.ensures ∙ c.if-is_round_open.false in
    let owed : owed_break c.args.book.now c.args.seed c.args.k ≡ Some c.in-Some.order =
    sym c.in_ok-order.ensures ∙ c.in-Some.is in
    subst (IsBreakAnswer c.args.book.now c.args.seed c.args.k) owed
    (break-answer c.args.book.now c.args.seed c.args.k races rounds)

pub returns-clause-order : goal.returns-clause-order
returns-clause-order c =
    let races : is_race_pending c.args.book.now ≡ false = sym c.is_race_pending.ensures ∙ c.if-is_race_pending.false in
    let rounds : is_round_open c.args.book.now ≡ false = sym c.is_round_open.ensures ∙ c.if-is_round_open.false in
    let none : owed_break c.args.book.now c.args.seed c.args.k ≡ None = sym c.in_ok-order.ensures ∙ c.in_default.is in
    c.owed_balance.ensures.order ∙ sym (order-free c.args.book.now c.args.seed c.args.k races rounds
    ∙ ap (λ (order : Option Event). first_order order (owed_balance c.args.book.now)) none)

pub returns-clause-rule : goal.returns-clause-rule
returns-clause-rule c =
    let races : is_race_pending c.args.book.now ≡ false = sym c.is_race_pending.ensures ∙ c.if-is_race_pending.false in
    let rounds : is_round_open c.args.book.now ≡ false = sym c.is_round_open.ensures ∙ c.if-is_round_open.false in
    let none : owed_break c.args.book.now c.args.seed c.args.k ≡ None = sym c.in_ok-order.ensures ∙ c.in_default.is in
    let no_break = subst (IsBreakAnswer c.args.book.now c.args.seed c.args.k) none
    (break-answer c.args.book.now c.args.seed c.args.k races rounds) in
    subst (IsNextOrder c.args.book.now c.args.seed c.args.k) (sym c.owed_balance.ensures.order)
    (balance-answer c.args.book.now c.args.seed c.args.k races rounds no_break
    (λ from to is. c.owed_balance.ensures.moved from to (c.owed_balance.ensures.order ∙ is)))
