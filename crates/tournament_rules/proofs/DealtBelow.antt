-- Chips go into a hand seat by seat.
use Rattle.std.proofs.Common.{◌≡◌, refl, sym, ap, subst, inl, inr, ℕ, ◌+◌, Bool, true, false, cond, ◌==◌, ◌&&◌, List, [], ◌∷◌, arith}
use Rattle.std.specs.Prelude.{not, ◌||◌, map, nat_le, Some, None}
use Rattle.std.specs.List.{list_all}
use Rattle.std.proofs.Math.Bool.{and-false, and-true}
use Rattle.std.proofs.lemmas.Bool.{and_parts, cases_Bool}
use Rattle.std.proofs.lemmas.Bool.Decides.{nat_tests}
use Rattle.button_blinds.specs.SeatSets.{has_seat}
use Rattle.seat_book.specs.declared.place.Place.{Place}
use Rattle.seat_book.specs.declared.seated.Seated.{Seated}
use Rattle.seat_book.specs.Players.{sits_in, player_at, with_stack}
use Rattle.seat_book.specs.Seatings.{sits_within}
use Rattle.tournament_rules.specs.Players.{is_dealt_in, with_rest, dealt_in}

-- whether a player is dealt in, and sits in one of the first so many seats
abbrev pub is_dealt_below : ℕ → List Bool → ℕ → Seated → Bool
is_dealt_below table waiting seats player = is_dealt_in table waiting player && nat_le player.place.seat seats

-- the chips of those who are dealt in and sit in the first so many seats are in the hand
abbrev pub dealt_below : ℕ → List Bool → ℕ → List Seated → List Seated
dealt_below table waiting seats players =
    map (λ player. cond (is_dealt_below table waiting seats player) (with_rest player 0) player) players

-- a seat of a table
abbrev pub seat_of : ℕ → ℕ → Place
seat_of table seat = record { table = table; seat = seat }

-- a seat further, by plain tests: nobody is dealt in there
passed_plain : (here : Bool) (waits : ℕ → Bool) (seat below : ℕ)
    → ((here && (seat == below + 1)) && not (waits (below + 1))) ≡ false
    → ((here && not (waits seat)) && nat_le seat below) ≡ ((here && not (waits seat)) && nat_le seat (below + 1))
passed_plain here waits seat below passed = elim (cases_Bool (seat == below + 1)) [
  | inl is ↦
      let same : seat ≡ below + 1 = grind (arith, nat_tests) in
      subst (λ (seat : ℕ). ((here && not (waits seat)) && nat_le seat below)
      ≡ ((here && not (waits seat)) && nat_le seat (below + 1))) (sym same)
      (at_seat here (waits (below + 1)) (rw is at passed))
  | inr other ↦
      let same : nat_le seat below ≡ nat_le seat (below + 1) = grind (arith, nat_tests) in
      ap (λ (b : Bool). (here && not (waits seat)) && b) same
]
  where
    nobody : (here waits : Bool) → ((here && true) && not waits) ≡ false → (here && not waits) ≡ false
    nobody true waits none = none
    nobody false waits none = refl

    at_seat : (here waits : Bool) → ((here && true) && not waits) ≡ false
        → ((here && not waits) && nat_le (below + 1) below) ≡ ((here && not waits) && nat_le (below + 1) (below + 1))
    at_seat here waits none = rw (nobody here waits none) refl

-- a seat further, by plain tests: who sits there is dealt in
dealt_plain : (here : Bool) (waits : ℕ → Bool) (seat below : ℕ) → waits (below + 1) ≡ false
    → ((here && not (waits seat)) && nat_le seat (below + 1))
    ≡ (((here && not (waits seat)) && nat_le seat below) || (here && (seat == below + 1)))
dealt_plain here waits seat below free = elim (cases_Bool (seat == below + 1)) [
  | inl is ↦
      let same : seat ≡ below + 1 = grind (arith, nat_tests) in
      let plays : not (waits seat) ≡ true = rw (same, free) refl in
      let last : nat_le seat (below + 1) ≡ true = grind (arith, nat_tests) in
      let above : nat_le seat below ≡ false = grind (arith, nat_tests) in
      rw (plays, last, above, is) (by_here here)
  | inr other ↦
      let same : nat_le seat (below + 1) ≡ nat_le seat below = grind (arith, nat_tests) in
      rw (same, other) (by_other ((here && not (waits seat)) && nat_le seat below) here)
]
  where
    by_here : (here : Bool) → ((here && true) && true) ≡ (((here && true) && false) || (here && true))
    by_here true = refl
    by_here false = refl

    by_other : (before here : Bool) → before ≡ (before || (here && false))
    by_other true here = refl
    by_other false true = refl
    by_other false false = refl

-- who sits where does not change
same_place : (table seat : ℕ) (player : Seated) (b : Bool)
    → sits_in (seat_of table seat) (cond b (with_rest player 0) player) ≡ sits_in (seat_of table seat) player
same_place table seat player true = refl
same_place table seat player false = refl

-- a player from whom the chips went at one of two tests
both_tests : (player : Seated) (before here : Bool)
    → cond here (with_rest (cond before (with_rest player 0) player) 0) (cond before (with_rest player 0) player)
    ≡ cond (before || here) (with_rest player 0) player
both_tests player true true = refl
both_tests player true false = refl
both_tests player false true = refl
both_tests player false false = refl

-- Who sits in the next seat and does not wait is dealt in.
pub dealt-seat : (table : ℕ) (waiting : List Bool) (below : ℕ) (players : List Seated) → has_seat waiting (below + 1)
    ≡ false
    → with_stack (seat_of table (below + 1)) 0 (dealt_below table waiting below players)
    ≡ dealt_below table waiting (below + 1) players
dealt-seat table waiting below [] free = refl
dealt-seat table waiting below (player ∷ players) free =
    let test = dealt_plain (player.place.table == table) (has_seat waiting) player.place.seat below free in
    let one = both_tests player (is_dealt_below table waiting below player)
    (sits_in (seat_of table (below + 1)) player) in
    let rest = dealt-seat table waiting below players free in
    rw (same_place table (below + 1) player (is_dealt_below table waiting below player))
    (rw (one, ← test) (ap (◌∷◌
    (cond (is_dealt_below table waiting (below + 1) player) (with_rest player 0) player)) rest))

-- Where the next seat's player waits, nobody more is dealt in.
pub dealt-waiting : (table : ℕ) (waiting : List Bool) (below : ℕ) (players : List Seated)
    → has_seat waiting (below + 1) ≡ true → dealt_below table waiting below players
    ≡ dealt_below table waiting (below + 1) players
dealt-waiting table waiting below [] waits = refl
dealt-waiting table waiting below (player ∷ players) waits =
    let test = passed_plain (player.place.table == table) (has_seat waiting) player.place.seat below
    (rw waits (and-false ((player.place.table == table) && (player.place.seat == below + 1)))) in
    let rest = dealt-waiting table waiting below players waits in
    rw test (ap (◌∷◌ (cond (is_dealt_below table waiting (below + 1) player) (with_rest player 0) player)) rest)

-- Where nobody sits in the next seat, nobody more is dealt in.
pub dealt-empty : (table : ℕ) (waiting : List Bool) (below : ℕ) (players : List Seated)
    → player_at (dealt_below table waiting below players) (seat_of table (below + 1)) ≡ None
    → dealt_below table waiting below players ≡ dealt_below table waiting (below + 1) players
dealt-empty table waiting below [] empty = refl
dealt-empty table waiting below (player ∷ players) empty =
    by_test (sits_in (seat_of table (below + 1)) player) refl empty
    (λ (more : player_at (dealt_below table waiting below players) (seat_of table (below + 1)) ≡ None).
    dealt-empty table waiting below players more)
  where
    by_test : (h : Bool) → sits_in (seat_of table (below + 1)) player ≡ h
        → player_at (dealt_below table waiting below (player ∷ players)) (seat_of table (below + 1)) ≡ None
        → (player_at (dealt_below table waiting below players) (seat_of table (below + 1)) ≡ None
        → dealt_below table waiting below players ≡ dealt_below table waiting (below + 1) players)
        → dealt_below table waiting below (player ∷ players) ≡ dealt_below table waiting (below + 1) (player ∷ players)
    by_test true his none rest =
        let found : Some (cond (is_dealt_below table waiting below player) (with_rest player 0) player)
        ≡ None = rw (same_place table (below + 1) player (is_dealt_below table waiting below player), his) at
        none in absurd cc
    by_test false his none rest =
        let more = rest (rw (same_place table (below + 1) player (is_dealt_below table waiting below player), his) at
        none) in
        let test = passed_plain (player.place.table == table) (has_seat waiting) player.place.seat below
        (rw his refl) in
        rw test (ap (◌∷◌ (cond (is_dealt_below table waiting (below + 1) player) (with_rest player 0) player)) more)

-- A seat that the tables have is not before the first and not past the last.
pub seat_within : (tables seats at seat : ℕ)
    → ((nat_le 1 at && nat_le at tables) && (nat_le 1 seat && nat_le seat seats)) ≡ true
    → (nat_le seat 0 ≡ false) × (nat_le seat seats ≡ true)
seat_within tables seats at seat there = (grind (arith, nat_tests), grind (arith, nat_tests))

-- Once all seats of the table are passed, all who do not wait are dealt in.
pub dealt-all : (tables seats table : ℕ) (waiting : List Bool) (players : List Seated)
    → list_all (sits_within tables seats) players ≡ true → dealt_below table waiting seats players
    ≡ dealt_in table waiting players
dealt-all tables seats table waiting [] within = refl
dealt-all tables seats table waiting (player ∷ players) within =
    let parts = and_parts (sits_within tables seats player) (list_all (sits_within tables seats) players) within in
    let last = (seat_within tables seats player.place.table player.place.seat parts.0).1 in
    rw (last, and-true (is_dealt_in table waiting player)) (ap
    (◌∷◌ (cond (is_dealt_in table waiting player) (with_rest player 0) player))
    (dealt-all tables seats table waiting players parts.1))

-- Before any seat nobody is dealt in.
pub dealt-none : (tables seats table : ℕ) (waiting : List Bool) (players : List Seated)
    → list_all (sits_within tables seats) players ≡ true → dealt_below table waiting 0 players ≡ players
dealt-none tables seats table waiting [] within = refl
dealt-none tables seats table waiting (player ∷ players) within =
    let parts = and_parts (sits_within tables seats player) (list_all (sits_within tables seats) players) within in
    let first = (seat_within tables seats player.place.table player.place.seat parts.0).0 in
    rw (first, and-false (is_dealt_in table waiting player)) (ap (◌∷◌ player)
    (dealt-none tables seats table waiting players parts.1))
