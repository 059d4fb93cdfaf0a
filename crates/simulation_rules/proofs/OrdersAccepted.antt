-- An order that is owed is accepted.
use Rattle.std.proofs.Common.{◌≡◌, refl, ap, subst, ℕ, Bool, true, false, List, [], ◌∷◌, Option, Some, None, arith}
use Rattle.std.specs.Prelude.{◌&&◌, ◌||◌, find, not}
use Rattle.std.proofs.lemmas.Bool.{and_from, and_parts, cond_both, not-true, or_parts}
use Rattle.rulebook.specs.Checks.{first_that_holds}
use Rattle.rulebook.proofs.Checks.{none_holds}
use Rattle.seat_book.specs.declared.place.Place.{Place}
use Rattle.seat_book.specs.Counts.{is_open, table_numbers}
use Rattle.seat_book.specs.Places.{IsTableOf}
use Rattle.seat_book.specs.Seatings.{is_not_last, is_race_pending, is_round_open}
use Rattle.balance_rule.specs.Balance.{balance_checks, is_even_enough, is_not_fullest, is_not_shortest}
use Rattle.balance_rule.specs.Filling.{lacks_room}
use Rattle.balance_rule.specs.Moves.{IsFreeTable, IsLawfulMove}
use Rattle.balance_rule.specs.Moves.{Break as ByBreak}
use Rattle.balance_rule.proofs.Converse.{lawful-checked}
use Rattle.floor_text.specs.declared.refusal.Refusal.TheVariants as refusals
use Rattle.tournament_events.specs.declared.event.Event.{Event}
use Rattle.tournament_events.specs.declared.event.Event.TheVariants as events
use Rattle.floor_director.specs.Orders.{balance_of, first_order, giver, is_playing as plays, may_give, may_take, next_order, owed_balance, owed_break, taker}
use Rattle.floor_director.specs.Owed.{IsNextOrder}
use Rattle.floor_director.proofs.FirstTables.{IsFirst, tables-first}
use Rattle.floor_director.proofs.NextOrders.{IsBreakAnswer, break-answer}
use Rattle.floor_director.proofs.OwedChecks.{lawful-draw, lawful-next, lawful-room}
use Rattle.tournament_rules.specs.Books.{BookState, has_table}
use Rattle.tournament_rules.specs.Checks.{book_refusal, is_playing, is_right_draw, is_table_open}
use Rattle.tournament_rules.specs.States.{PlayState, hand_table, refusal_of}
use Rattle.tournament_rules.specs.Valid.{IsValid}
use Rattle.simulation_rules.proofs.BookEvents.{between, free_by_book}

-- None of eight checks holds.
eight-free : {A : Type 0} (k l m n o p q r : A) (a b c d e f g h : Bool) → a ≡ false → b ≡ false → c ≡ false
    → d ≡ false → e ≡ false → f ≡ false → g ≡ false → h ≡ false
    → first_that_holds ((k, a) ∷ (l, b) ∷ (m, c) ∷ (n, d) ∷ (o, e) ∷ (p, f) ∷ (q, g) ∷ (r, h) ∷ []) ≡ None
eight-free k l m n o p q r a b c d e f g h a_is b_is c_is d_is e_is f_is g_is h_is =
    rw (a_is, b_is, c_is, d_is, e_is, f_is, g_is, h_is) refl

-- An order is about no hand, and the book does not refuse it.
record IsFreeOrder (book : BookState) (order : Event) : Type 0 where
  no_hand : hand_table order ≡ None
  free : book_refusal book order ≡ None

-- what is so of an order, if there is one
abbrev IfFree : BookState → Option Event → Type 0
IfFree book None = Unit {0}
IfFree book (Some order) = IsFreeOrder book order

first-free : (book : BookState) (one other : Option Event) → IfFree book one → IfFree book other
    → IfFree book (first_order one other)
first-free book None other one_is other_is = other_is
first-free book (Some order) other one_is other_is = one_is

module _ (book : BookState) (valid : IsValid book) (going : book.stopped ≡ false) where
  -- an open table of the seating is one of the plan
  open-there : (table : ℕ) → IsTableOf book.seating.table_count table → is_open book.seating.players table ≡ true
      → is_table_open book table ≡ true
  open-there table at opened =
      let tables = valid.tables.tables in
      let last = at.last in
      and_from (has_table book table) (is_open book.seating.players table)
      (between 1 book.plan.tables table at.first (omega (arith, last, tables))) opened

  -- A break that is owed is accepted.
  break_free : (table : ℕ) (seats : List Place) (names : List (List ℕ))
      → IsLawfulMove book.seating (ByBreak table seats names)
      → book_refusal book (events.Break table seats names) ≡ None
  unfolding book_refusal
  break_free table seats names lawful =
      let seating = book.seating in
      let own = lawful.lawful in
      eight-free refusals.Stopped refusals.NoTable refusals.Playing refusals.RaceDue refusals.NotNextToBreak
      refusals.NoRoom refusals.DrawWrong refusals.RoundOpen book.stopped (not (is_table_open book table))
      (is_playing book table) (is_race_pending seating) (is_not_last seating table) (lacks_room seating table)
      (not (is_right_draw book table seats names)) (is_round_open seating) going
      (ap not (open-there table own.free.number own.free.opened)) own.free.playing lawful.no_race
      (lawful-next seating table seats names lawful)
      (lawful-room seating table seats names lawful valid.tables.lawful)
      (ap not (lawful-draw seating table seats names lawful)) lawful.no_round

  -- A balance is accepted where both tables are open, the one rests, and no check of a balance holds.
  balance_free : (from to : ℕ) → is_race_pending book.seating ≡ false → is_round_open book.seating ≡ false
      → IsFreeTable book.seating from → IsTableOf book.seating.table_count to
      → is_open book.seating.players to ≡ true → is_not_fullest book.seating from ≡ false
      → is_not_shortest book.seating to ≡ false → is_even_enough book.seating from to ≡ false
      → book_refusal book (events.Balance from to) ≡ None
  unfolding book_refusal
  balance_free from to no_race no_round free number opened full short uneven =
      let seating = book.seating in
      eight-free refusals.Stopped refusals.NoTable refusals.Playing refusals.RaceDue refusals.NotFullest
      refusals.NotShortest refusals.EvenEnough refusals.RoundOpen book.stopped
      (not (is_table_open book from && is_table_open book to)) (is_playing book from) (is_race_pending seating)
      (is_not_fullest seating from) (is_not_shortest seating to) (is_even_enough seating from to)
      (is_round_open seating) going
      (ap not (and_from (is_table_open book from) (is_table_open book to)
      (open-there from free.number free.opened) (open-there to number opened)))
      free.playing no_race full short uneven no_round

  -- An order that is first by the rule is free.
  ruled-free : (seed : List ℕ) (number : ℕ) (order : Event) → IsNextOrder book.seating seed number (Some order)
      → IsFreeOrder book order
  ruled-free seed number (events.Break table seats names) owed =
      record { no_hand = refl; free = break_free table seats names owed.lawful }
  ruled-free seed number (events.Balance from to) owed =
      let seating = book.seating in
      let lawful = owed.lawful.1 in
      let all = none_holds (balance_checks seating from to) (lawful-checked seating from to owed.lawful.0 lawful) in
      let one = and_parts (not (is_not_fullest seating from))
      (not (is_not_shortest seating to) && (not (is_even_enough seating from to) && true)) all in
      let two = and_parts (not (is_not_shortest seating to)) (not (is_even_enough seating from to) && true) one.1 in
      let three = and_parts (not (is_even_enough seating from to)) true two.1 in
      record {
        no_hand = refl;
        free = balance_free from to lawful.no_race lawful.no_round lawful.lawful.free lawful.lawful.number
            lawful.lawful.opened (not-true (is_not_fullest seating from) one.0)
            (not-true (is_not_shortest seating to) two.0) (not-true (is_even_enough seating from to) three.0);
      }
  ruled-free seed number _ owed = absurd owed

  -- The break that is owed is free.
  break-is : (seed : List ℕ) (number : ℕ) (order : Option Event) → IsBreakAnswer book.seating seed number order
      → IfFree book order
  break-is seed number None answer = tt
  break-is seed number (Some order) answer = ruled-free seed number order answer

  balance-by_tables : is_race_pending book.seating ≡ false → is_round_open book.seating ≡ false → (from to : Option ℕ)
      → IsFirst (may_give book.seating) 0 book.seating.table_count from
      → IsFirst (may_take book.seating) 0 book.seating.table_count to
      → IfFree book (balance_of book.seating from to)
  balance-by_tables no_race no_round None to gives takes = tt
  balance-by_tables no_race no_round (Some from) None gives takes = tt
  balance-by_tables no_race no_round (Some from) (Some to) gives takes =
      let seating = book.seating in
      cond_both {A = Option Event} (is_even_enough seating from to) None (Some (events.Balance from to)) (IfFree book)
      (λ even. tt)
      (λ uneven.
      let giving = and_parts (is_open seating.players from && not (plays seating from))
      (not (is_not_fullest seating from)) gives.passes in
      let resting = and_parts (is_open seating.players from) (not (plays seating from)) giving.0 in
      let taking = and_parts (is_open seating.players to) (not (is_not_shortest seating to)) takes.passes in
      let low = gives.above in
      let low_to = takes.above in
      record {
        no_hand = refl;
        free = balance_free from to no_race no_round
            (record {
              number = record { first = omega (arith, low); last = gives.within };
              opened = resting.0;
              playing = not-true (plays seating from) resting.1;
            })
            (record { first = omega (arith, low_to); last = takes.within }) taking.0
            (not-true (is_not_fullest seating from) giving.1) (not-true (is_not_shortest seating to) taking.1) uneven;
      })

  -- The balance that is owed is free.
  balance-is : is_race_pending book.seating ≡ false → is_round_open book.seating ≡ false
      → IfFree book (owed_balance book.seating)
  unfolding owed_balance giver taker
  balance-is no_race no_round =
      let tables = table_numbers book.seating.table_count in
      balance-by_tables no_race no_round (find (may_give book.seating) tables) (find (may_take book.seating) tables)
      (tables-first (may_give book.seating) book.seating.table_count)
      (tables-first (may_take book.seating) book.seating.table_count)

  -- The order that is owed, if one is, is free.
  owed-is : (seed : List ℕ) (number : ℕ) → IfFree book (next_order book.seating seed number)
  unfolding next_order
  owed-is seed number =
      let seating = book.seating in
      cond_both {A = Option Event} (is_race_pending seating || is_round_open seating) None
      (first_order (owed_break seating seed number) (owed_balance seating)) (IfFree book) (λ held. tt)
      (λ free.
      let parts = or_parts (is_race_pending seating) (is_round_open seating) free in
      first-free book (owed_break seating seed number) (owed_balance seating)
      (break-is seed number (owed_break seating seed number) (break-answer seating seed number parts.0 parts.1))
      (balance-is parts.0 parts.1))

-- The book does not refuse an order that is first by the rule.
pub ruled_order_is_accepted : (book : BookState) (seed : List ℕ) (number : ℕ) (order : Event) → IsValid book
    → book.stopped ≡ false → IsNextOrder book.seating seed number (Some order) → book_refusal book order ≡ None
ruled_order_is_accepted book seed number order valid going owed =
    (ruled-free book valid going seed number order owed).free

-- The book does not refuse an order that is owed.
pub owed_order_is_accepted : (book : BookState) (seed : List ℕ) (number : ℕ) (order : Event) → IsValid book
    → book.stopped ≡ false → next_order book.seating seed number ≡ Some order → book_refusal book order ≡ None
owed_order_is_accepted book seed number order valid going is =
    (subst (IfFree book) is (owed-is book valid going seed number)).free

-- An order that is owed is accepted in a tournament that goes on.
pub order_accepted : (play : PlayState) (seed : List ℕ) (number : ℕ) (order : Event) → IsValid play.book
    → play.book.stopped ≡ false → next_order play.book.seating seed number ≡ Some order
    → refusal_of play order ≡ None
order_accepted play seed number order valid going is =
    let free = subst (IfFree play.book) is (owed-is play.book valid going seed number) in
    free_by_book play order free.no_hand free.free
