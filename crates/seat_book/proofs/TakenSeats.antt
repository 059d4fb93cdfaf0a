-- A table's count is the number of its taken seats, since no two players sit in one seat.
use Rattle.std.proofs.Common.{◌≡◌, ◌∙◌, refl, sym, ap, ℕ, zero, suc, ◌+◌, ◌<◌, ◌≤◌, Bool, true, false, cond, ◌==◌, ◌&&◌, List, [], ◌∷◌, ◌++◌, map, length, take, get_or, Option, None, Some, inl, inr, arith}
use Rattle.std.specs.Prelude.{not, nat_lt, nat_le, filter, slice_index_or}
use Rattle.std.specs.List.{list_all, cons_option}
use Rattle.std.proofs.lemmas.Bool.{and_from, and_parts, both_ways, cases_Bool, not-true}
use Rattle.std.proofs.lemmas.Bool.Decides.{nat_tests}
use Rattle.std.proofs.lemmas.List.{get_or_read, length-map, take_more, map-append, append-nil}
use Rattle.std.proofs.lemmas.List.Elements.{filter_map-append}
use Rattle.std.proofs.lemmas.List.Sums.{sum_by-set, length-filter}
use Rattle.rulebook.specs.Pairs.{are_rising}
use Rattle.rulebook.proofs.Tests.{list_all-both, list_all-follows}
use Rattle.button_blinds.specs.SeatSets.{no_seats, has_seat, with_seat, with_seats, seat_count, AreSeatsOf}
use Rattle.button_blinds.proofs.SeatSetLaws.{with_seat-size, has_seat-with_seat, no_seats-none, AreSeatsOf-no_seats, AreSeatsOf-with_seat}
use Rattle.seat_book.specs.declared.seated.Seated.{Seated}
use Rattle.seat_book.specs.Places.{is_place_of, comes_before, IsPlaceOf}
use Rattle.seat_book.specs.Players.{players_in, sits_at, players_at, taken_seats, places_of, are_in_order}
use Rattle.seat_book.specs.Counts.{count_at}
use Rattle.seat_book.specs.Seatings.{Seating, sits_within, IsSeating}
use Rattle.seat_book.proofs.Slots.{IsPlaceOf-test}

-- whether a number is that of one of so many seats
abbrev pub is_seat_to : ℕ → ℕ → Bool
is_seat_to seats seat = nat_le 1 seat && nat_le seat seats

-- whether a player sits in one of so many seats
abbrev pub sits_in_seats : ℕ → Seated → Bool
sits_in_seats seats player = is_seat_to seats player.place.seat

-- Who sits within the tables sits in one of the seats, and of more seats too.
pub seats_of_places : (tables seats most : ℕ) (players : List Seated) → seats ≤ most
    → list_all (sits_within tables seats) players ≡ true → list_all (sits_in_seats most) players ≡ true
seats_of_places tables seats most players fewer within = list_all-follows (sits_within tables seats)
    (sits_in_seats most) players (λ player sits. one player.place.table player.place.seat sits) within
  where
    one : (table seat : ℕ) → is_place_of tables seats (record { table = table; seat = seat }) ≡ true
        → is_seat_to most seat ≡ true
    one table seat within = grind (arith, nat_tests)

-- a seat that may still be put into a set
abbrev pub may_come : List Bool → ℕ → Bool
may_come set seat = is_seat_to 10 seat && not (has_seat set seat)

-- A set with one more seat, which was not in it, has one seat more.
pub one_more : (set : List Bool) (seat : ℕ) → length set ≡ 10 → may_come set seat ≡ true
    → seat_count (with_seat set seat) ≡ seat_count set + 1
one_more set zero size comes = cc
one_more set (suc below) size comes =
    let parts = and_parts (is_seat_to 10 (suc below)) (not (has_seat set (suc below))) comes in
    let within : below < length set = omega (arith, size, at_most below parts.0) in
    let free : slice_index_or set below false ≡ false = not-true (has_seat set (suc below)) parts.1 in
    let counted = sum_by-set (λ is_in. cond is_in 1 0) set below true false within in
    let none = ap (λ (b : Bool). cond {A = ℕ} b 1 0) free in
    omega (arith, counted, none)
  where
    at_most : (below : ℕ) → is_seat_to 10 (suc below) ≡ true → below < 10
    at_most below between = grind (arith, nat_tests)

still_comes : (set : List Bool) (seat other : ℕ) → nat_lt seat other ≡ true → may_come set other ≡ true
    → may_come (with_seat set seat) other ≡ true
still_comes set seat other higher comes =
    let parts = and_parts (is_seat_to 10 other) (not (has_seat set other)) comes in
    elim (cases_Bool (has_seat (with_seat set seat) other)) [
      | inl there ↦ elim (has_seat-with_seat set seat other there) [
        | inl same ↦ absurd (not_itself seat other higher same)
        | inr was ↦ absurd (both_ways (has_seat set other) (not-true (has_seat set other) parts.1) was)
      ]
      | inr free ↦ rw (parts.0, free) refl
    ]
  where
    not_itself : (seat other : ℕ) → nat_lt seat other ≡ true → other ≡ seat → ⊥
    not_itself seat other higher same = grind (arith, nat_tests)

all_still_come : (set : List Bool) (seat : ℕ) (seats : List ℕ) → list_all (nat_lt seat) seats ≡ true
    → list_all (may_come set) seats ≡ true → list_all (may_come (with_seat set seat)) seats ≡ true
all_still_come set seat seats higher comes =
    list_all-both (nat_lt seat) (may_come set) (may_come (with_seat set seat)) seats
    (λ other above comes. still_comes set seat other above comes) higher comes

count_with : (set : List Bool) (seats : List ℕ) → length set ≡ 10 → are_rising seats ≡ true
    → list_all (may_come set) seats ≡ true → seat_count (with_seats set seats) ≡ seat_count set + length seats
count_with set [] size higher comes = omega arith
count_with set (seat ∷ seats) size higher comes =
    let above = and_parts (list_all (nat_lt seat) seats) (are_rising seats) higher in
    let parts = and_parts (may_come set seat) (list_all (may_come set) seats) comes in
    let one = one_more set seat size parts.0 in
    let others = count_with (with_seat set seat) seats (with_seat-size set seat ∙ size) above.1
    (all_still_come set seat seats above.0 parts.1) in
    omega (arith, one, others)

-- the seats of those who sit at a table
abbrev pub seats_at : ℕ → List Seated → List ℕ
seats_at table players = map (λ player. player.place.seat) (filter (sits_at table) players)

later_seat : (a b x y table : ℕ) → comes_before (record { table = a; seat = b }) (record { table = x; seat = y }) ≡ true
    → (a == table) ≡ true → (x == table) ≡ true → nat_lt b y ≡ true
later_seat a b x y table before here there = grind (arith, nat_tests)

higher_step : (table seat : ℕ) (player : Seated) (players : List Seated) (b : Bool)
    → (b ≡ true → nat_lt seat player.place.seat ≡ true) → list_all (nat_lt seat) (seats_at table players) ≡ true
    → list_all (nat_lt seat) (map (λ player. player.place.seat)
    (cond b (player ∷ filter (sits_at table) players) (filter (sits_at table) players))) ≡ true
higher_step table seat player players true here others = rw (here refl, others) refl
higher_step table seat player players false here others = others

-- who sits later at a table sits in a higher seat
all_higher : (table : ℕ) (player : Seated) (players : List Seated) → sits_at table player ≡ true
    → list_all (comes_before player.place) (places_of players) ≡ true
    → list_all (nat_lt player.place.seat) (seats_at table players) ≡ true
all_higher table player [] sits before = refl
all_higher table player (other ∷ players) sits before =
    let parts = and_parts (comes_before player.place other.place)
    (list_all (comes_before player.place) (places_of players)) before in
    higher_step table player.place.seat other players (sits_at table other)
    (λ there. later_seat player.place.table player.place.seat other.place.table other.place.seat table parts.0 sits
    there)
    (all_higher table player players sits parts.1)

rising_step : (table : ℕ) (player : Seated) (players : List Seated) (b : Bool) → sits_at table player ≡ b
    → list_all (comes_before player.place) (places_of players) ≡ true → are_rising (seats_at table players) ≡ true
    → are_rising (map (λ player. player.place.seat) (cond b (player ∷ filter (sits_at table) players)
    (filter (sits_at table) players))) ≡ true
rising_step table player players true sits before others = rw (all_higher table player players sits before, others) refl
rising_step table player players false sits before others = others

-- The seats of those who sit at a table rise, where the players are in order.
pub seats_rise : (table : ℕ) (players : List Seated) → are_in_order players ≡ true
    → are_rising (seats_at table players) ≡ true
seats_rise table [] ordered = refl
seats_rise table (player ∷ players) ordered =
    let parts = and_parts (list_all (comes_before player.place) (places_of players)) (are_in_order players) ordered in
    rising_step table player players (sits_at table player) refl parts.0 (seats_rise table players parts.1)

come_step : (table : ℕ) (player : Seated) (players : List Seated) (b : Bool) → sits_in_seats 10 player ≡ true
    → list_all (may_come no_seats) (seats_at table players) ≡ true
    → list_all (may_come no_seats) (map (λ player. player.place.seat)
    (cond b (player ∷ filter (sits_at table) players) (filter (sits_at table) players))) ≡ true
come_step table player players true within others =
    let free = no_seats-none player.place.seat in
    rw (within, free, others) refl
come_step table player players false within others = others

seats_come : (table : ℕ) (players : List Seated) → list_all (sits_in_seats 10) players ≡ true
    → list_all (may_come no_seats) (seats_at table players) ≡ true
seats_come table [] within = refl
seats_come table (player ∷ players) within =
    let parts = and_parts (sits_in_seats 10 player) (list_all (sits_in_seats 10) players) within in
    come_step table player players (sits_at table player) parts.0 (seats_come table players parts.1)

-- The taken seats of a table are seats of the table.
pub taken_within : (seats table : ℕ) (players : List Seated) → list_all (sits_in_seats seats) players ≡ true
    → AreSeatsOf seats (taken_seats players table)
taken_within seats table players within = by_list players no_seats (AreSeatsOf-no_seats seats) within
  where
    in_seats : (seat : ℕ) → is_seat_to seats seat ≡ true → seat ≤ seats
    in_seats seat between = grind (arith, nat_tests)

    by_test : (player : Seated) (players : List Seated) (set : List Bool) (s : Bool) → AreSeatsOf seats set
        → sits_in_seats seats player ≡ true
        → ((set : List Bool) → AreSeatsOf seats set → AreSeatsOf seats (with_seats set (seats_at table players)))
        → AreSeatsOf seats (with_seats set (map (λ player. player.place.seat)
        (cond s (player ∷ filter (sits_at table) players) (filter (sits_at table) players))))
    by_test player players set true before sits others = others (with_seat set player.place.seat)
        (AreSeatsOf-with_seat set player.place.seat seats before (in_seats player.place.seat sits))
    by_test player players set false before sits others = others set before

    by_list : (players : List Seated) (set : List Bool) → AreSeatsOf seats set
        → list_all (sits_in_seats seats) players ≡ true → AreSeatsOf seats (with_seats set (seats_at table players))
    by_list [] set before within = before
    by_list (player ∷ players) set before within =
        let parts = and_parts (sits_in_seats seats player) (list_all (sits_in_seats seats) players) within in
        by_test player players set (sits_at table player) before parts.0
        (λ set before. by_list players set before parts.1)

-- As many seats of a table are taken as players sit there.
pub taken_count : (table : ℕ) (players : List Seated) → are_in_order players ≡ true
    → list_all (sits_in_seats 10) players ≡ true
    → seat_count (taken_seats players table) ≡ count_at players table
taken_count table players ordered within =
    let counted = count_with no_seats (seats_at table players) refl (seats_rise table players ordered)
    (seats_come table players within) in
    let size = length-map (players_at players table) (λ (player : Seated). player.place.seat) in
    let number = length-filter (sits_at table) players in
    omega (arith, counted, size, number)

-- As many seats of a table of a seating are taken as players sit there.
pub taken_count-seating : (seating : Seating) (table : ℕ) → IsSeating seating
    → seat_count (taken_seats seating.players table) ≡ count_at seating.players table
taken_count-seating seating table lawful =
    taken_count table seating.players lawful.ordered
    (seats_of_places seating.table_count seating.seat_count 10 seating.players lawful.most_seats lawful.within)

-- what holds of all players in slots holds of the one in a slot
pub list_all-slot : (test : Seated → Bool) (slots : List (Option Seated)) (slot : ℕ) (seated : Seated)
    → list_all test (players_in slots) ≡ true → get_or slots slot None ≡ Some seated → test seated ≡ true
list_all-slot test [] slot seated all is = absurd cc
list_all-slot test (None ∷ slots) zero seated all is = absurd cc
list_all-slot test (None ∷ slots) (suc slot) seated all is = list_all-slot test slots slot seated all is
list_all-slot test (Some first ∷ slots) zero seated all is =
    let same : first ≡ seated = cc in
    let parts = and_parts (test first) (list_all test (players_in slots)) all in
    ap test (sym same) ∙ parts.0
list_all-slot test (Some first ∷ slots) (suc slot) seated all is = list_all-slot test slots slot seated
    (and_parts (test first) (list_all test (players_in slots)) all).1 is

-- what holds of all players holds of those at a table
list_all-at : (test : Seated → Bool) (table : ℕ) (players : List Seated) → list_all test players ≡ true
    → list_all test (players_at players table) ≡ true
list_all-at test table [] all = refl
list_all-at test table (seated ∷ players) all =
    let parts = and_parts (test seated) (list_all test players) all in
    with_first (sits_at table seated) parts.0 (list_all-at test table players parts.1)
  where
    with_first : (b : Bool) → test seated ≡ true → list_all test (filter (sits_at table) players) ≡ true
        → list_all test (cond b (seated ∷ filter (sits_at table) players) (filter (sits_at table) players)) ≡ true
    with_first true here others = and_from (test seated) (list_all test (filter (sits_at table) players)) here others
    with_first false here others = others

-- who is in a slot of a table sits in a place that the tables have
pub slot-place : (seating : Seating) (table slot : ℕ) (slots : List (Option Seated)) (read : Option Seated)
    (seated : Seated) → IsSeating seating → players_in slots ≡ players_at seating.players table
    → read ≡ get_or slots slot read → slot < length slots → read ≡ Some seated
    → IsPlaceOf seating.table_count seating.seat_count seated.place
slot-place seating table slot slots read seated lawful players is within some =
    let here = sym (get_or_read slots slot read within is None) ∙ some in
    let all = ap (list_all (sits_within seating.table_count seating.seat_count)) players
    ∙ list_all-at (sits_within seating.table_count seating.seat_count) table seating.players lawful.within in
    IsPlaceOf-test seating.table_count seating.seat_count seated.place
    (list_all-slot (sits_within seating.table_count seating.seat_count) slots slot seated all here)

-- the seats of the players in slots
abbrev pub seats_in : List (Option Seated) → List Bool
seats_in slots = with_seats no_seats (map (λ seated. seated.place.seat) (players_in slots))

with_seats-push : (set : List Bool) (seats : List ℕ) (seat : ℕ)
    → with_seats set (seats ++ seat ∷ []) ≡ with_seat (with_seats set seats) seat
with_seats-push set [] seat = refl
with_seats-push set (first ∷ seats) seat = with_seats-push (with_seat set first) seats seat

more : (slot : ℕ) (slots : List (Option Seated)) (read : Option Seated) → slot < length slots
    → read ≡ get_or slots slot read → players_in (take (slot + 1) slots) ≡ players_in (take slot slots) ++ cons_option
    read []
more slot slots read within is =
    ap players_in (take_more slots slot None within ∙ ap (λ (one : Option Seated). take slot slots ++ one ∷ [])
    (sym (get_or_read slots slot read within is None)))
    ∙ filter_map-append (λ slot. slot) (take slot slots) (read ∷ [])

-- one more slot with a player
pub seats_in-more : (slot : ℕ) (slots : List (Option Seated)) (read : Option Seated) (seated : Seated)
    → slot < length slots → read ≡ get_or slots slot read → read ≡ Some seated
    → seats_in (take (slot + 1) slots) ≡ with_seat (seats_in (take slot slots)) seated.place.seat
seats_in-more slot slots read seated within is some =
    let players : players_in (take (slot + 1) slots) ≡ players_in (take slot slots) ++ seated ∷ [] = more slot slots
    read within is ∙ ap (λ (one : Option Seated). players_in (take slot slots) ++ cons_option one []) some in
    ap (λ players. with_seats no_seats (map (λ seated. seated.place.seat) players)) players
    ∙ (ap (with_seats no_seats) (map-append (λ (seated : Seated). seated.place.seat) (players_in (take slot slots))
    (seated ∷ []))
    ∙ with_seats-push no_seats (map (λ seated. seated.place.seat) (players_in (take slot slots))) seated.place.seat)

-- one more slot that is empty
pub seats_in-empty : (slot : ℕ) (slots : List (Option Seated)) (read : Option Seated) → slot < length slots
    → read ≡ get_or slots slot read → read ≡ None → seats_in (take (slot + 1) slots) ≡ seats_in (take slot slots)
seats_in-empty slot slots read within is none =
    ap (λ players. with_seats no_seats (map (λ seated. seated.place.seat) players))
    (more slot slots read within is ∙ (ap (λ (one : Option Seated). players_in (take slot slots) ++ cons_option one
    []) none ∙ append-nil (players_in (take slot slots))))
