-- Seats to fill are there exactly where there is room: by the sets of seats that are taken or chosen.
use Rattle.std.proofs.Common.{◌≡◌, ◌≢◌, ◌∙◌, refl, sym, ap, subst, ℕ, zero, suc, ◌+◌, ◌-◌, ◌<◌, ◌≤◌, ◌==◌, Bool, true, false, cond, List, [], ◌∷◌, ◌++◌, map, length, None, Some, inl, inr, arith}
use Rattle.std.specs.Prelude.{not, ◌&&◌, ◌||◌, filter, sum, ◌⊎◌}
use Rattle.std.specs.List.{list_any}
use Rattle.std.specs.Option.{is_some}
use Rattle.std.proofs.Math.Bool.{or-false}
use Rattle.std.proofs.lemmas.Bool.{cases_Bool, cases_eq, cases_lt, eq-eqb, eqb-true, and_from, not-true}
use Rattle.std.proofs.lemmas.Bool.Decides.{nat_tests}
use Rattle.std.proofs.lemmas.List.Folds.{list_any-append}
use Rattle.rulebook.specs.Seats.{walk}
use Rattle.rulebook.proofs.Found.{none-found, some-found}
use Rattle.rulebook.proofs.Tests.{eqb-swap, not-or}
use Rattle.button_blinds.specs.SeatSets.{has_seat, with_seat, seat_count, AreSeatsOf}
use Rattle.button_blinds.proofs.SeatSetLaws.{with_seat-size, AreSeatsOf-with_seat, seat_count-most}
use Rattle.seat_book.specs.declared.place.Place.{Place}
use Rattle.seat_book.specs.Players.{player_at, taken_seats}
use Rattle.seat_book.specs.Counts.{count_at}
use Rattle.seat_book.specs.Seatings.{Seating, IsSeating}
use Rattle.seat_book.proofs.TakenPlaces.{has_seat-one_more, has_seat-taken, taken-size}
use Rattle.seat_book.proofs.TakenSeats.{seats_of_places, is_seat_to, may_come, one_more, taken_count-seating, taken_within}
use Rattle.balance_rule.specs.EmptySeats.{lowest_seat}
use Rattle.balance_rule.specs.Filling.{is_other_open, other_open_tables, empty_elsewhere, is_at, is_same_place, count_with, is_free, place_at, seat_there, next_to_fill, with_one, filled, fill_seats, IsNextSeat}
use Rattle.balance_rule.specs.Filling as filling
use Rattle.balance_rule.proofs.FreeSeats.{some-free, walk-finds}
use Rattle.break_draw.proofs.Growing.{sum-first}
use Rattle.break_draw.proofs.NextSeats.{next-is}
use Rattle.break_draw.proofs.Room.{count_with-more, filled-last, lowest-has_room, room_left}

-- a seat of a table is taken or chosen
abbrev is_held : Seating → List Place → ℕ → ℕ → Bool
is_held seating chosen table seat =
    is_some (player_at seating.players (record { table = table; seat = seat }))
    || list_any (is_same_place (record { table = table; seat = seat })) chosen

-- a set has the seats of a table that are taken or chosen, and is counted
record AreHeld (seating : Seating) (chosen : List Place) (table : ℕ) (set : List Bool) : Type 0 where
  size : length set ≡ 10
  within : AreSeatsOf seating.seat_count set
  each : (seat : ℕ) → 1 ≤ seat → seat ≤ 10 → has_seat set seat ≡ is_held seating chosen table seat
  counted : seat_count set ≡ count_with seating.players chosen table

-- what is free is not in the set
not_in : (seating : Seating) (chosen : List Place) (table seat : ℕ)
    → not (is_held seating chosen table seat) ≡ is_free seating.players chosen table seat
not_in seating chosen table seat = not-or
    (is_some (player_at seating.players (record { table = table; seat = seat })))
    (list_any (is_same_place (record { table = table; seat = seat })) chosen)

module _ (seating : Seating) (lawful : IsSeating seating) where
  -- before any seat is chosen
  none_chosen : (table : ℕ) → AreHeld seating [] table (taken_seats seating.players table)
  none_chosen table = record {
    size = taken-size seating.players table;
    within = taken_within seating.seat_count table seating.players
        (seats_of_places seating.table_count seating.seat_count seating.seat_count seating.players (omega arith)
        lawful.within);
    each = λ seat first last. has_seat-taken table seat first last seating.players
        ∙ sym (or-false (is_some (player_at seating.players (record { table = table; seat = seat }))));
    counted = let counted = taken_count-seating seating table lawful in omega (arith, counted);
  }

  -- the next seat is not in the set of its table
  next-free : (table : ℕ) (chosen : List Place) (place : Place) (set : List Bool) → IsNextSeat seating table chosen place
      → AreHeld seating chosen place.table set → has_seat set place.seat ≡ false
  next-free table chosen place set next held =
      not-true (has_seat set place.seat)
      (ap not (held.each place.seat next.within.first (omega (arith, next.within.last, lawful.most_seats)))
      ∙ (not_in seating chosen place.table place.seat ∙ next.free))

  -- with one more place chosen, a seat is held where it is that place or was held
  one_held : (chosen : List Place) (place : Place) (table seat : ℕ) (here there : Bool)
      → (place.table == table) ≡ here → (place.seat == seat) ≡ there
      → is_held seating (chosen ++ place ∷ []) table seat ≡ ((here && there) || is_held seating chosen table seat)
  one_held chosen place table seat here there here_is there_is =
      let sits = is_some (player_at seating.players (record { table = table; seat = seat })) in
      let any = list_any (is_same_place (record { table = table; seat = seat })) in
      let one : ((table == place.table) && (seat == place.seat)) ≡ (here && there) =
      ap (λ b. b && (seat == place.seat)) (eqb-swap table place.table ∙ here_is)
      ∙ ap (λ b. here && b) (eqb-swap seat place.seat ∙ there_is) in
      ap (λ b. sits || b) (list_any-append (is_same_place (record { table = table; seat = seat })) chosen (place ∷ [])
      ∙ ap (λ b. any chosen || (b || false)) one) ∙ turned sits (any chosen) (here && there)
    where
      turned : (sits any one : Bool) → (sits || (any || (one || false))) ≡ (one || (sits || any))
      turned true any true = refl
      turned true any false = refl
      turned false true true = refl
      turned false true false = refl
      turned false false true = refl
      turned false false false = refl

  -- once the next seat is chosen
  one_chosen : (table at : ℕ) (chosen : List Place) (place : Place) (set : List Bool)
      → IsNextSeat seating table chosen place → AreHeld seating chosen at set
      → (set : List Bool) × AreHeld seating (chosen ++ place ∷ []) at set
  one_chosen table at chosen place set next held = elim (cases_Bool (place.table == at)) [
    | inl here ↦ (
      with_seat set place.seat,
      record {
        size = with_seat-size set place.seat ∙ held.size;
        within = AreSeatsOf-with_seat set place.seat seating.seat_count held.within next.within.last;
        each = λ seat first last. has_seat-one_more set place.seat seat first (omega (arith, last, held.size))
            ∙ (ap (λ b. (place.seat == seat) || b) (held.each seat first last)
            ∙ sym (one_held chosen place at seat true (place.seat == seat) here refl));
        counted = let same = eqb-true place.table at here in
            let more = count_with-more seating.players chosen place at in
            let one = ap (λ b. cond {A = ℕ} b 1 0) here in
            let new = one_more set place.seat held.size (may_come_in (subst (λ (n : ℕ). AreHeld seating chosen n set)
            (sym same) held)) in
            let counted = held.counted in
            omega (arith, more, one, new, counted);
      },
    )
    | inr apart ↦ (
      set,
      record {
        size = held.size;
        within = held.within;
        each = λ seat first last. held.each seat first last
            ∙ sym (one_held chosen place at seat false (place.seat == seat) apart refl);
        counted = let more = count_with-more seating.players chosen place at in
            let none = ap (λ b. cond {A = ℕ} b 1 0) apart in
            let counted = held.counted in
            omega (arith, more, none, counted);
      },
    )
  ]
    where
      may_come_in : AreHeld seating chosen place.table set → may_come set place.seat ≡ true
      may_come_in held = and_from (is_seat_to 10 place.seat) (not (has_seat set place.seat))
          (of_table place.seat next.within.first (omega (arith, next.within.last, lawful.most_seats)))
          (ap not (next-free table chosen place set next held))
        where
          of_table : (seat : ℕ) → 1 ≤ seat → seat ≤ 10 → is_seat_to 10 seat ≡ true
          of_table seat first last = grind (arith, nat_tests)

  -- The seats of a table that are taken or chosen, after so many are chosen.
  held-filled : (table at n : ℕ) (chosen : List Place) → filled seating table n ≡ Some chosen
      → (set : List Bool) × AreHeld seating chosen at set
  held-filled table at zero chosen is =
      let none : [] ≡ chosen = cc in (
        taken_seats seating.players at,
        subst (λ (chosen : List Place). AreHeld seating chosen at (taken_seats seating.players at)) none
            (none_chosen at),
      )
  held-filled table at (suc n) chosen is =
      let last = filled-last seating table n chosen is in
      let before = held-filled table at n last.0 last.1.1.0 in
      let now = one_chosen table at last.0 last.1.0 before.0 (next-is seating table last.0 last.1.0 last.1.1.1)
      before.1 in
      (now.0, subst (λ (chosen : List Place). AreHeld seating chosen at now.0) (sym last.1.1.2) now.1)

  -- while fewer are taken or chosen than a table has, one of its seats is free
  seat-there : (chosen : List Place) (at : ℕ) (set : List Bool) → AreHeld seating chosen at set
      → count_with seating.players chosen at < seating.seat_count
      → (seat : ℕ) × (lowest_seat seating.seat_count (is_free seating.players chosen at) ≡ Some seat)
  seat-there chosen at set held room =
      let free = some-free set seating.seat_count (omega (arith, held.counted, room)) in
      some-found (lowest_seat seating.seat_count (is_free seating.players chosen at))
      (λ none. walk-finds seating.seat_count (is_free seating.players chosen at) seating.seat_count free.0 (omega arith)
      free.1.0 free.1.1 (sym (not_in seating chosen at free.0)
      ∙ (ap not (sym (held.each free.0 free.1.0 (omega (arith, free.1.1, lawful.most_seats))))
      ∙ ap not free.1.2)) none)

  -- while there is room, one more seat is filled
  next-there : (table n : ℕ) (chosen : List Place) → filled seating table n ≡ Some chosen
      → n < empty_elsewhere seating table → (place : Place) × (next_to_fill seating table chosen ≡ Some place)
  next-there table n chosen is room =
      let lowest = lowest-has_room seating table n chosen is room in
      let held = held-filled table lowest.0 n chosen is in
      let seat = seat-there chosen lowest.0 held.0 held.1 lowest.1.1 in (
        record { table = lowest.0; seat = seat.0 },
        ap (seat_there seating chosen) lowest.1.0 ∙ ap (place_at lowest.0) seat.1,
      )

  filled-there : (table n : ℕ) → n ≤ empty_elsewhere seating table
      → (chosen : List Place) × (filled seating table n ≡ Some chosen)
  filled-there table zero room = ([], refl)
  filled-there table (suc n) room =
      let before = filled-there table n (omega (arith, room)) in
      let next = next-there table n before.0 before.1 (omega (arith, room)) in
      (before.0 ++ next.0 ∷ [], ap (filling.one_more seating table) before.1 ∙ ap (with_one before.0) next.1)

  -- Where no seats are found, the other open tables have fewer empty ones than the table has players.
  pub none-without_room : (table : ℕ) → fill_seats seating table ≡ None
      → empty_elsewhere seating table < count_at seating.players table
  none-without_room table none = elim (cases_lt (empty_elsewhere seating table) (count_at seating.players table)) [
    | inl fewer ↦ fewer
    | inr room ↦
        let there = filled-there table (count_at seating.players table) room in
        let both : None ≡ Some there.0 = sym none ∙ there.1 in
        absurd cc
  ]

  -- the table of the next seat has a seat that is neither taken nor chosen
  room-there : (table n : ℕ) (chosen : List Place) (place : Place) → filled seating table n ≡ Some chosen
      → IsNextSeat seating table chosen place → count_with seating.players chosen place.table < seating.seat_count
  room-there table n chosen place is next =
      let held = held-filled table place.table n chosen is in
      let more = one_chosen table place.table chosen place held.0 next held.1 in
      let most = seat_count-most more.0 seating.seat_count more.1.within in
      let counted = more.1.counted in
      let one = count_with-more seating.players chosen place place.table in
      let here = ap (λ b. cond {A = ℕ} b 1 0) (eq-eqb place.table place.table refl) in
      omega (arith, most, counted, one, here)

-- a sum over a walk falls where each value falls or stays and one falls
module _ (test : ℕ → Bool) (before after : ℕ → ℕ) (all : (table : ℕ) → after table ≤ before table) (one : ℕ)
    (passes : test one ≡ true)
    (less : after one + 1 ≤ before one) where
  no_more : (steps from : ℕ) → sum (map after (filter test (walk suc steps from)))
      ≤ sum (map before (filter test (walk suc steps from)))
  no_more zero from = omega arith
  no_more (suc steps) from = by_test (test (suc from)) (all (suc from)) (no_more steps (suc from))
    where
      by_test : (b : Bool) → after (suc from) ≤ before (suc from)
          → sum (map after (filter test (walk suc steps (suc from))))
          ≤ sum (map before (filter test (walk suc steps (suc from))))
          → sum (map after (cond b (suc from ∷ filter test (walk suc steps (suc from)))
          (filter test (walk suc steps (suc from)))))
          ≤ sum (map before (cond b (suc from ∷ filter test (walk suc steps (suc from)))
          (filter test (walk suc steps (suc from)))))
      by_test true here rest =
          let one_before = sum-first before (suc from) (filter test (walk suc steps (suc from))) in
          let one_after = sum-first after (suc from) (filter test (walk suc steps (suc from))) in
          omega (arith, here, rest, one_before, one_after)
      by_test false here rest = rest

  one_less : (steps from : ℕ) → from < one → one ≤ from + steps
      → sum (map after (filter test (walk suc steps from))) + 1
      ≤ sum (map before (filter test (walk suc steps from)))
  one_less zero from above within = absurd (omega (arith, above, within))
  one_less (suc steps) from above within =
      by_test (test (suc from)) refl (cases_eq (suc from) one) (all (suc from)) (no_more steps (suc from))
      (λ over. one_less steps (suc from) over (omega (arith, within)))
    where
      by_test : (b : Bool) → test (suc from) ≡ b → (suc from ≡ one) ⊎ (suc from ≢ one)
          → after (suc from) ≤ before (suc from)
          → sum (map after (filter test (walk suc steps (suc from))))
          ≤ sum (map before (filter test (walk suc steps (suc from))))
          → (suc from < one → sum (map after (filter test (walk suc steps (suc from)))) + 1
          ≤ sum (map before (filter test (walk suc steps (suc from)))))
          → sum (map after (cond b (suc from ∷ filter test (walk suc steps (suc from)))
          (filter test (walk suc steps (suc from))))) + 1
          ≤ sum (map before (cond b (suc from ∷ filter test (walk suc steps (suc from)))
          (filter test (walk suc steps (suc from)))))
      by_test true is (inl here) _ rest _ =
          let fewer : after (suc from) + 1 ≤ before (suc from) =
          subst (λ (n : ℕ). after n + 1 ≤ before n) (sym here) less in
          let one_before = sum-first before (suc from) (filter test (walk suc steps (suc from))) in
          let one_after = sum-first after (suc from) (filter test (walk suc steps (suc from))) in
          omega (arith, fewer, rest, one_before, one_after)
      by_test true is (inr apart) here _ later =
          let rest = later (omega (arith, above, apart)) in
          let one_before = sum-first before (suc from) (filter test (walk suc steps (suc from))) in
          let one_after = sum-first after (suc from) (filter test (walk suc steps (suc from))) in
          omega (arith, here, rest, one_before, one_after)
      by_test false is (inl here) _ _ _ =
          let fails : test one ≡ false = ap test (sym here) ∙ is in
          absurd cc
      by_test false is (inr apart) _ _ later = later (omega (arith, above, apart))

module _ (seating : Seating) (lawful : IsSeating seating) where
  -- each seat that is chosen takes one of the room that is left
  room-most : (table n : ℕ) (chosen : List Place) → filled seating table n ≡ Some chosen
      → room_left seating table chosen + n ≤ empty_elsewhere seating table
  room-most table zero chosen is =
      let none : [] ≡ chosen = cc in
      let now = ap (room_left seating table) none in
      let same : room_left seating table [] ≡ empty_elsewhere seating table = ap (λ value. sum (map value
      (other_open_tables seating table))) (λ i other. seating.seat_count - plain other i) in
      omega (arith, now, same)
    where
      plain : (other : ℕ) → count_with seating.players [] other ≡ count_at seating.players other
      plain other = omega arith
  room-most table (suc n) chosen is =
      let last = filled-last seating table n chosen is in
      let before = room-most table n last.0 last.1.1.0 in
      let next = next-is seating table last.0 last.1.0 last.1.1.1 in
      let room = room-there seating lawful table n last.0 last.1.0 last.1.1.0 next in
      let one = count_with-more seating.players last.0 last.1.0 last.1.0.table in
      let here = ap (λ b. cond {A = ℕ} b 1 0) (eq-eqb last.1.0.table last.1.0.table refl) in
      let step = one_less (is_other_open seating table)
      (λ other. seating.seat_count - count_with seating.players last.0 other)
      (λ other. seating.seat_count - count_with seating.players (last.0 ++ last.1.0 ∷ []) other)
      (λ other. let more = count_with-more seating.players last.0 last.1.0 other in omega (arith, more)) last.1.0.table
      next.elsewhere (omega (arith, room, one, here)) seating.table_count 0 (omega (arith, next.within.table.first))
      (omega (arith, next.within.table.last)) in
      let now = ap (room_left seating table) last.1.1.2 in
      omega (arith, before, step, now)

  -- Where the other open tables have fewer empty seats than the table has players, no seats are found.
  pub without_room-none : (table : ℕ) → empty_elsewhere seating table < count_at seating.players table
      → fill_seats seating table ≡ None
  without_room-none table fewer = none-found (fill_seats seating table)
      (λ chosen is. let most = room-most table (count_at seating.players table) chosen is in
      absurd (omega (arith, most, fewer)))
