-- Seats that are free: where fewer are taken than a table has, a walk round it finds one.
use Rattle.std.proofs.Common.{◌≡◌, ◌∙◌, refl, ap, ℕ, zero, suc, ◌<◌, ◌≤◌, ◌==◌, Bool, true, false, cond, List, [], ◌∷◌, Option, None, Some, arith}
use Rattle.std.specs.Option.{is_some}
use Rattle.std.specs.Prelude.{not, ◌&&◌, ◌||◌, find, slice_index_or}
use Rattle.std.proofs.Math.Bool.{and_comm}
use Rattle.std.proofs.lemmas.Bool.{both_ways, and_parts, not-true}
use Rattle.rulebook.specs.Seats.{seat_after, walk, clockwise_after}
use Rattle.rulebook.proofs.Found.{none-by_test}
use Rattle.rulebook.proofs.OccupiedSeats.{comes-to, seat_after-within}
use Rattle.rulebook.proofs.Tests.{count_by-cons, eqb-swap, find-all, find-passes, not-or}
use Rattle.button_blinds.specs.SeatSets.{has_seat, with_seat, seat_count}
use Rattle.button_blinds.specs.declared.marks.Marks.{Marks}
use Rattle.seat_book.specs.declared.seated.Seated.{Seated}
use Rattle.seat_book.specs.Players.{player_at, taken_seats}
use Rattle.rulebook.proofs.Passing.{none-find}
use Rattle.seat_book.proofs.TakenPlaces.{has_seat-one_more, has_seat-taken, taken-size}
use Rattle.balance_rule.specs.EmptySeats.{is_empty_seat, first_after, worst_of}

-- a list of tests of which fewer than n are true has a false one among the first n
false-test : (set : List Bool) (n : ℕ) → seat_count set < n → (k : ℕ) × ((k < n) × (slice_index_or set k false ≡ false))
false-test [] n fewer = (0, (omega arith, refl))
false-test (true ∷ set) zero fewer = absurd (omega arith)
false-test (true ∷ set) (suc n) fewer =
    let counted = count_by-cons (λ is_in. is_in) true set in
    let rest = false-test set n (omega (arith, counted)) in
    (suc rest.0, (omega (arith, rest.1.0), rest.1.1))
false-test (false ∷ set) n fewer = (0, (omega arith, refl))

-- Where fewer seats are taken than a table has, a seat of the table is not taken.
pub some-free : (set : List Bool) (seats : ℕ) → seat_count set < seats
    → (seat : ℕ) × ((1 ≤ seat) × (seat ≤ seats) × (has_seat set seat ≡ false))
some-free set seats fewer =
    let test = false-test set seats fewer in
    (suc test.0, (omega arith, omega (arith, test.1.0), test.1.1))

-- A walk round a table finds a seat that passes a test, where a seat of the table does.
pub walk-finds : (seats : ℕ) (test : ℕ → Bool) (seat target : ℕ) → seat ≤ seats → 1 ≤ target → target ≤ seats
    → test target ≡ true → first_after seats test seat ≡ None → ⊥
walk-finds seats test seat target within first last passes none =
    let all = none-find test (clockwise_after seats seat) none in
    let failed = find-all (λ other. other == target) (λ other. not (test other))
    (clockwise_after seats seat) target (comes-to seats seat target within first last) all in
    both_ways (test target) (not-true (test target) failed) passes

-- A walk round a table finds a seat that is not taken, where fewer are taken than the table has.
pub walk-free : (set : List Bool) (seats seat : ℕ) → seat ≤ seats → seat_count set < seats
    → first_after seats (λ other. not (has_seat set other)) seat ≡ None → ⊥
walk-free set seats seat within fewer none =
    let free = some-free set seats fewer in
    walk-finds seats (λ other. not (has_seat set other)) seat free.0 within free.1.0 free.1.1 (ap not free.1.2) none

walk-alike : (seats : ℕ) (one other : ℕ → Bool) (steps seat : ℕ) → 1 ≤ seats
    → ((at : ℕ) → 1 ≤ at → at ≤ seats → one at ≡ other at)
    → find one (walk (seat_after seats) steps seat) ≡ find other (walk (seat_after seats) steps seat)
walk-alike seats one other zero seat some alike = refl
walk-alike seats one other (suc steps) seat some alike =
    let next = seat_after-within seats seat some in
    let here = alike (seat_after seats seat) next.0 next.1 in
    let rest = walk-alike seats one other steps (seat_after seats seat) some alike in
    rw here (ap (λ found. cond (other (seat_after seats seat)) (Some (seat_after seats seat)) found) rest)

-- Tests that agree on the seats of a table find the same seat of it.
pub first-alike : (seats : ℕ) (one other : ℕ → Bool) (seat : ℕ) → 1 ≤ seats
    → ((at : ℕ) → 1 ≤ at → at ≤ seats → one at ≡ other at) → first_after seats one seat ≡ first_after seats other seat
first-alike seats one other seat some alike = walk-alike seats one other seats seat some alike

-- A seat is empty where it is not taken.
pub empty-untaken : (players : List Seated) (table seats at : ℕ) → seats ≤ 10 → 1 ≤ at → at ≤ seats
    → not (has_seat (taken_seats players table) at) ≡ is_empty_seat players table at
empty-untaken players table seats at most first last =
    ap not (has_seat-taken table at first (omega arith) players)

-- A seat is empty and not the big mark's where it is not taken with that.
pub empty-apart : (players : List Seated) (table seats big at : ℕ) → seats ≤ 10 → 1 ≤ at → at ≤ seats
    → not (has_seat (with_seat (taken_seats players table) big) at)
    ≡ (is_empty_seat players table at && not (at == big))
empty-apart players table seats big at most first last =
    let size = taken-size players table in
    let one = has_seat-one_more (taken_seats players table) big at first (omega (arith, size, last, most)) in
    let sits = is_some (player_at players (record { table = table; seat = at })) in
    ap not (one ∙ ap (λ taken. big == at || taken) (has_seat-taken table at first (omega arith) players))
    ∙ not-or (big == at) sits ∙ and_comm (not (big == at)) (not sits)
    ∙ ap (λ marked. not sits && not marked) (eqb-swap big at)

-- The worst seat by the marks is empty.
pub worst-empty : (seats : ℕ) (is_empty : ℕ → Bool) (marks : Option Marks) (seat : ℕ)
    → worst_of seats is_empty marks ≡ Some seat → is_empty seat ≡ true
worst-empty seats is_empty None seat is = find-passes is_empty (clockwise_after seats seats) seat is
worst-empty seats is_empty (Some marks) seat is =
    (and_parts (is_empty seat) (not (seat == marks.big))
    (find-passes (λ other. is_empty other && not (other == marks.big))
    (clockwise_after seats marks.big) seat is)).0

-- Nobody sits in an empty seat.
pub empty-nobody : (players : List Seated) (table seat : ℕ) → is_empty_seat players table seat ≡ true
    → player_at players (record { table = table; seat = seat }) ≡ None
empty-nobody players table seat empty =
    none-by_test (player_at players (record { table = table; seat = seat })) empty
