-- The big mark is next: when a hand begins, nobody is dealt in between the small mark and the big one.
use Rattle.std.proofs.Common.{◌≡◌, ◌∙◌, refl, sym, ap, subst, ℕ, suc, ◌≤◌, Bool, true, false, cond, ◌==◌, ◌&&◌, List, [], ◌∷◌, map, inl, inr, arith}
use Rattle.std.specs.Prelude.{not, slice_index_or, filter, find, unwrap_or, Option, Some, None}
use Rattle.std.specs.List.{list_any}
use Rattle.std.specs.Option.{is_some, ForSome}
use Rattle.std.proofs.lemmas.Bool.{and_from, cases_Bool, cases_eq, eq-eqb, eqb-true}
use Rattle.std.proofs.lemmas.Bool.Decides.{nat_tests}
use Rattle.std.proofs.lemmas.Option.{same_Some}
use Rattle.rulebook.specs.Seats.{clockwise_after, next_occupied_after}
use Rattle.rulebook.proofs.Tests.{find-all, find-passes, some_there}
use Rattle.card_set.specs.declared.card.CardRow.{CardRow}
use Rattle.level_plan.specs.Items.{is_between}
use Rattle.button_blinds.specs.declared.marks.Marks.{Marks}
use Rattle.button_blinds.specs.Marks.{AreMarksOf, is_heads_up, heads_up_marks, moved_marks, marks_after, waiting_between, leaves_fewer_than_three}
use Rattle.button_blinds.specs.SeatSets.{no_seats, has_seat, with_seat, seat_count, AreSeatsOf}
use Rattle.button_blinds.proofs.BigPlays.{next-apart}
use Rattle.button_blinds.proofs.Distances.{IsSeat, dominated, seat_low}
use Rattle.button_blinds.proofs.NextMarksLaws.{next-seat}
use Rattle.button_blinds.proofs.SeatSetLaws.{has_seat-with_seat, no_seats-none, with_seat-size}
use Rattle.button_blinds.proofs.WhoPlays.{next-sits}
use Rattle.seat_book.specs.declared.seated.Seated.{Seated}
use Rattle.seat_book.specs.Players.{sits_at, player_at, taken_seats}
use Rattle.seat_book.specs.Tables.{status_at}
use Rattle.seat_book.proofs.TakenPlaces.{has_seat-taken}
use Rattle.seat_book.proofs.TakenSeats.{is_seat_to, may_come, one_more, seats_of_places, taken_count, taken_within}
use Rattle.table_engine.specs.declared.start.StartSeat.{StartSeat}
use Rattle.table_engine.specs.Covers.{is_big_next}
use Rattle.table_engine.specs.Hands.{player_of}
use Rattle.tournament_events.specs.declared.event.Event.TheVariants.{Begin}
use Rattle.tournament_rules.specs.Books.{BookState}
use Rattle.tournament_rules.specs.Checks.{book_refusal}
use Rattle.tournament_rules.specs.Dealing.{next_at, next_start}
use Rattle.tournament_rules.specs.Players.{start_seat, is_dealt_in, dealt_seats}
use Rattle.tournament_rules.specs.Valid.{IsValid}
use Rattle.tournament_rules.proofs.Begins.{may_begin, start_is_lawful}
use Rattle.tournament_rules.proofs.Fitting.{table_range}

-- a seat that is not in a set is not in it with another seat
stays_out : (set : List Bool) (more seat : ℕ) → (seat ≡ more → ⊥) → has_seat set seat ≡ false
    → has_seat (with_seat set more) seat ≡ false
stays_out set more seat apart out = elim (cases_Bool (has_seat (with_seat set more) seat)) [
  | inl there ↦ elim (has_seat-with_seat set more seat there) [ inl same ↦ absurd (apart same) | inr was ↦ absurd cc ]
  | inr none ↦ none
]

-- a seat of a table that is not in a set may come into it
comes : (set : List Bool) (seat : ℕ) → 1 ≤ seat → seat ≤ 10 → has_seat set seat ≡ false → may_come set seat ≡ true
comes set seat low high out = and_from (is_seat_to 10 seat) _ (grind (arith, nat_tests)) (ap not out)

-- where three seats are in a set it has three or more
three_seats : (set : List Bool) (a b c : ℕ) → AreSeatsOf 10 set → has_seat set a ≡ true → has_seat set b ≡ true
    → has_seat set c ≡ true → (b ≡ a → ⊥) → (c ≡ a → ⊥) → (c ≡ b → ⊥) → 3 ≤ seat_count set
three_seats set a b c table in_a in_b in_c b_a c_a c_b =
    let one = with_seat no_seats a in
    let two = with_seat one b in
    let three = with_seat two c in
    let none_b = stays_out no_seats a b b_a (no_seats-none b) in
    let none_c = stays_out one b c c_b (stays_out no_seats a c c_a (no_seats-none c)) in
    let first = one_more no_seats a refl
    (comes no_seats a (seat_low set a in_a) (table.within a in_a) (no_seats-none a)) in
    let second = one_more one b (with_seat-size no_seats a)
    (comes one b (seat_low set b in_b) (table.within b in_b) none_b) in
    let third = one_more two c (with_seat-size one b ∙ with_seat-size no_seats a)
    (comes two c (seat_low set c in_c) (table.within c in_c) none_c) in
    let here : (k : ℕ) (seat : ℕ) → has_seat set seat ≡ true → suc k ≡ seat → slice_index_or set k false ≡ true =
    λ k seat there same. subst (λ (s : ℕ). has_seat set s ≡ true) (sym same) there in
    let most = dominated three set (λ k there. elim (has_seat-with_seat two c (suc k) there) [
      | inl is_c ↦ here k c in_c is_c
      | inr in_two ↦ elim (has_seat-with_seat one b (suc k) in_two) [
        | inl is_b ↦ here k b in_b is_b
        | inr in_one ↦ elim (has_seat-with_seat no_seats a (suc k) in_one) [
          | inl is_a ↦ here k a in_a is_a
          | inr nowhere ↦ (let none = no_seats-none (suc k) in absurd cc)
        ]
      ]
    ]) in
    omega (arith, first, second, third, most)

-- With two players, the next after one of them is the other.
next_of_two : (occupied : List Bool) (seats big : ℕ) → seats ≤ 10 → AreSeatsOf seats occupied
    → seat_count occupied ≡ 2 → IsSeat seats big → has_seat occupied big ≡ true
    → next_occupied_after seats (has_seat occupied) (next_occupied_after seats (has_seat occupied) big) ≡ big
next_of_two occupied seats big most table two at sits =
    let few : 2 ≤ seat_count occupied = omega (arith, two) in
    let small = next_occupied_after seats (has_seat occupied) big in
    let next = next_occupied_after seats (has_seat occupied) small in
    let small_at : IsSeat seats small = next-seat occupied seats big table few at.1 in
    let small_sits : has_seat occupied small ≡ true = next-sits occupied seats big table few at.1 in
    let next_there : has_seat occupied next ≡ true = next-sits occupied seats small table few small_at.1 in
    let ten : AreSeatsOf 10 occupied =
    record { within = λ seat is. let within = table.within seat is in omega (arith, within, most) } in
    elim (cases_eq next big) [
      | inl same ↦ same
      | inr other ↦
          let three = three_seats occupied big small next ten sits small_sits next_there
          (λ same. next-apart occupied seats big table few at same) other
          (λ same. next-apart occupied seats small table few small_at same) in
          absurd (omega (arith, three, two))
    ]

-- Among all who sit at a table, the big mark is next after the small one.
big_after_small : (old : Option Marks) (occupied : List Bool) (seats : ℕ) → seats ≤ 10 → AreSeatsOf seats occupied
    → 2 ≤ seat_count occupied → ForSome old (AreMarksOf seats)
    → next_occupied_after seats (has_seat occupied) (marks_after old occupied seats).marks.small
    ≡ (marks_after old occupied seats).marks.big
big_after_small None occupied seats most table few marks = refl
big_after_small (Some old) occupied seats most table few marks = by_test (is_heads_up occupied) refl
  where
    moved : (b : Bool) → leaves_fewer_than_three occupied (waiting_between occupied seats old.small old.big) ≡ b
        → next_occupied_after seats (has_seat occupied) (moved_marks old occupied seats
        (next_occupied_after seats (has_seat occupied) old.big)).marks.small
        ≡ (moved_marks old occupied seats (next_occupied_after seats (has_seat occupied) old.big)).marks.big
    moved true is = rw is refl
    moved false is = rw is refl

    by_test : (b : Bool) → is_heads_up occupied ≡ b
        → next_occupied_after seats (has_seat occupied) (cond b (record {
          marks = heads_up_marks occupied seats (next_occupied_after seats (has_seat occupied) old.big);
          waiting = no_seats;
        }) (moved_marks old occupied seats (next_occupied_after seats (has_seat occupied) old.big))).marks.small
        ≡ (cond b (record {
          marks = heads_up_marks occupied seats (next_occupied_after seats (has_seat occupied) old.big);
          waiting = no_seats;
        }) (moved_marks old occupied seats (next_occupied_after seats (has_seat occupied) old.big))).marks.big
    by_test true is =
        let at = marks old refl in
        next_of_two occupied seats (next_occupied_after seats (has_seat occupied) old.big) most table
        (eqb-true (seat_count occupied) 2 is) (next-seat occupied seats old.big table few at.big.1)
        (next-sits occupied seats old.big table few at.big.1)
    by_test false is = moved (leaves_fewer_than_three occupied (waiting_between occupied seats old.small old.big)) refl

-- What a test finds in a list, a narrower test that it passes finds too.
find-narrower : (wide narrow : ℕ → Bool) (seats : List ℕ) (found : ℕ) → find wide seats ≡ Some found
    → narrow found ≡ true → ((seat : ℕ) → narrow seat ≡ true → wide seat ≡ true) → find narrow seats ≡ Some found
find-narrower wide narrow [] found is passes follows = absurd cc
find-narrower wide narrow (seat ∷ seats) found is passes follows =
    by_test (wide seat) refl (λ later. find-narrower wide narrow seats found later passes follows)
  where
    by_test : (b : Bool) → wide seat ≡ b → (find wide seats ≡ Some found → find narrow seats ≡ Some found)
        → find narrow (seat ∷ seats) ≡ Some found
    by_test true here later =
        let same = same_Some seat found (rw here at is) in
        let his : narrow seat ≡ true = ap narrow same ∙ passes in
        rw his (ap Some same)
    by_test false here later =
        let his : narrow seat ≡ false = elim (cases_Bool (narrow seat)) [
          | inl there ↦ (let wider = follows seat there in absurd cc)
          | inr none ↦ none
        ] in
        rw his (later (rw here at is))

-- So the next occupied seat, where it is another, is the next by a narrower test that it passes.
next-narrower : (wide narrow : ℕ → Bool) (seats seat next : ℕ) → next_occupied_after seats wide seat ≡ next
    → (seat ≡ next → ⊥) → narrow next ≡ true → ((seat : ℕ) → narrow seat ≡ true → wide seat ≡ true)
    → next_occupied_after seats narrow seat ≡ next
next-narrower wide narrow seats seat next is apart passes follows =
    by_find (find wide (clockwise_after seats seat)) refl is
  where
    by_find : (found : Option ℕ) → find wide (clockwise_after seats seat) ≡ found → unwrap_or found seat ≡ next
        → next_occupied_after seats narrow seat ≡ next
    by_find None none same = absurd (apart same)
    by_find (Some found) there same =
        ap (λ (found : Option ℕ). unwrap_or found seat)
        (find-narrower wide narrow (clockwise_after seats seat) next (there ∙ ap Some same) passes follows)

dealt_step : (table seat : ℕ) (player : Seated) (found : List Seated) (rest : Option Seated) (here plays his : Bool)
    → (player.place.seat == seat) ≡ his
    → (is_some (find (λ (player : StartSeat). player.seat == seat) (map start_seat found)) ≡ true
    → is_some rest ≡ true)
    → is_some (find (λ (player : StartSeat). player.seat == seat)
    (map start_seat (cond (here && plays) (player ∷ found) found))) ≡ true
    → is_some (cond (here && player.place.seat == seat) (Some player) rest) ≡ true
dealt_step table seat player found rest true true true is others there = rw is refl
dealt_step table seat player found rest true true false is others there = rw is (others (rw is at there))
dealt_step table seat player found rest true false true is others there = rw is refl
dealt_step table seat player found rest true false false is others there = rw is (others there)
dealt_step table seat player found rest false true his is others there = others there
dealt_step table seat player found rest false false his is others there = others there

-- who is dealt in sits at the table
dealt_sits : (table seat : ℕ) (waiting : List Bool) (players : List Seated)
    → is_some (find (λ (player : StartSeat). player.seat == seat) (dealt_seats table waiting players)) ≡ true
    → is_some (player_at players (record { table = table; seat = seat })) ≡ true
dealt_sits table seat waiting [] there = cc
dealt_sits table seat waiting (player ∷ players) there =
    dealt_step table seat player (filter (is_dealt_in table waiting) players)
    (player_at players (record { table = table; seat = seat })) (sits_at table player)
    (not (has_seat waiting player.place.seat)) (player.place.seat == seat) refl
    (dealt_sits table seat waiting players) there

-- where somebody passes a test somebody is found
any_found : {A : Type 0} (test : A → Bool) (items : List A) → list_any test items ≡ true
    → is_some (find test items) ≡ true
any_found test [] some = cc
any_found test (item ∷ items) some = by_test (test item) refl (any_found test items)
  where
    by_test : (b : Bool) → test item ≡ b → (list_any test items ≡ true → is_some (find test items) ≡ true)
        → is_some (find test (item ∷ items)) ≡ true
    by_test true is rest = rw is refl
    by_test false is rest = rw is (rest (rw is at some))

-- When a hand begins, the big mark is next after the small one among those who are dealt in.
pub big_next-begun : (book : BookState) (table : ℕ) (row : CardRow) → IsValid book
    → book_refusal book (Begin table row) ≡ None → is_big_next (next_start book table row.cards) ≡ true
big_next-begun book table row valid free =
    let start = next_start book table row.cards in
    let players = book.seating.players in
    let lawful = start_is_lawful book table row valid free in
    let seating = valid.tables.lawful in
    let may = may_begin book table row free in
    let most = lawful.most_seats in
    let seats = seats_of_places book.seating.table_count book.seating.seat_count book.plan.seats players
    (let same = valid.tables.seats in omega (arith, same)) seating.within in
    let ten = seats_of_places book.seating.table_count book.seating.seat_count 10 players seating.most_seats
    seating.within in
    let counted = taken_count table players seating.ordered ten in
    let two = may.two in
    let marked = subst (λ (seats : ℕ). ForSome (status_at book.seating.tables table).marks (AreMarksOf seats))
    valid.tables.seats (seating.statuses table).marks in
    let next = big_after_small (status_at book.seating.tables table).marks (taken_seats players table) book.plan.seats
    most (taken_within book.plan.seats table players seats) (omega (arith, counted, two)) marked in
    eq-eqb _ start.marks.big
    (next-narrower (has_seat (taken_seats players table)) (λ seat. is_some (player_of start seat)) book.plan.seats
    start.marks.small start.marks.big next lawful.small
    (any_found (λ (player : StartSeat). player.seat == start.marks.big) start.seats lawful.big)
    (λ seat there.
    let found = some_there (player_of start seat) there in
    let his = find-passes (λ (player : StartSeat). player.seat == seat) start.seats found.0 found.1 in
    let within = find-all (λ (player : StartSeat). player.seat == seat)
    (λ (player : StartSeat). is_between 1 book.plan.seats player.seat) start.seats found.0 found.1 lawful.within in
    let range = table_range 1 book.plan.seats found.0.seat within in
    let same = eqb-true found.0.seat seat his in
    has_seat-taken table seat (omega (arith, range.0, same)) (omega (arith, range.1, same, most)) players
    ∙ dealt_sits table seat (next_at book table).waiting players there))
