-- Who is in a set after a seat is put in or taken out.
use Rattle.std.proofs.Common.{◌≡◌, ◌⊎◌, ℕ, zero, suc, ◌-◌, ◌≤◌, List, [], ◌∷◌, Bool, true, false, length, refl, ap, inl, inr, arith}
use Rattle.std.specs.Prelude.{IsTrue, slice_index_or, slice_set}
use Rattle.std.proofs.lemmas.List.{length-set}
use Rattle.rulebook.proofs.Tests.{at_most_one, count_by-cons}
use Rattle.rulebook.proofs.Repeats.{get_or-repeated}
use Rattle.button_blinds.specs.SeatSets.{no_seats, has_seat, with_seat, without_seat, seat_count, AreSeatsOf}

-- With one more seat a set has as many tests as before.
pub with_seat-size : (set : List Bool) (seat : ℕ) → length (with_seat set seat) ≡ length set
with_seat-size set zero = refl
with_seat-size set (suc at) = length-set set at true

-- A test that is true after one is made true was true, or is that one.
true-set_true : (set : List Bool) (at k : ℕ) → slice_index_or (slice_set set at true) k false ≡ true
    → (k ≡ at) ⊎ (slice_index_or set k false ≡ true)
true-set_true [] at k is = inr is
true-set_true (test ∷ more) zero zero is = inl refl
true-set_true (test ∷ more) zero (suc k) is = inr is
true-set_true (test ∷ more) (suc at) zero is = inr is
true-set_true (test ∷ more) (suc at) (suc k) is =
    elim (true-set_true more at k is) [ inl same ↦ inl (ap suc same) | inr was ↦ inr was ]

-- A test that is true after one is made false was true.
true-set_false : (set : List Bool) (at k : ℕ) → slice_index_or (slice_set set at false) k false ≡ true
    → slice_index_or set k false ≡ true
true-set_false [] at k is = is
true-set_false (test ∷ more) zero zero is = absurd cc
true-set_false (test ∷ more) zero (suc k) is = is
true-set_false (test ∷ more) (suc at) zero is = is
true-set_false (test ∷ more) (suc at) (suc k) is = true-set_false more at k is

-- A seat of the set with another seat is that one, or was in the set.
pub has_seat-with_seat : (set : List Bool) (seat other : ℕ) → IsTrue (has_seat (with_seat set seat) other)
    → (other ≡ seat) ⊎ IsTrue (has_seat set other)
has_seat-with_seat set zero other is = inr is
has_seat-with_seat set (suc at) zero is = inr is
has_seat-with_seat set (suc at) (suc k) is =
    elim (true-set_true set at k is) [ inl same ↦ inl (ap suc same) | inr was ↦ inr was ]

-- A seat of the set without another was in the set.
pub has_seat-without_seat : (set : List Bool) (seat other : ℕ) → IsTrue (has_seat (without_seat set seat) other)
    → IsTrue (has_seat set other)
has_seat-without_seat set zero other is = is
has_seat-without_seat set (suc at) zero is = is
has_seat-without_seat set (suc at) (suc k) is = true-set_false set at k is

-- A set of a table's seats with one more of its seats is one.
pub AreSeatsOf-with_seat : (set : List Bool) (seat seats : ℕ) → AreSeatsOf seats set → seat ≤ seats
    → AreSeatsOf seats (with_seat set seat)
AreSeatsOf-with_seat set seat seats before at = record {
  within = λ other is. elim
      (has_seat-with_seat set seat other is) [ inl same ↦ omega arith | inr was ↦ before.within other was ];
}

-- A set of a table's seats with one less is one.
pub AreSeatsOf-without_seat : (set : List Bool) (seat seats : ℕ) → AreSeatsOf seats set
    → AreSeatsOf seats (without_seat set seat)
AreSeatsOf-without_seat set seat seats before = record {
  within = λ other is. before.within other (has_seat-without_seat set seat other is);
}

-- No seat is in the set with no seat.
pub no_seats-none : (seat : ℕ) → has_seat no_seats seat ≡ false
no_seats-none zero = refl
no_seats-none (suc k) = get_or-repeated 10 k false

-- Only seats of the table are in the set with no seat.
pub AreSeatsOf-no_seats : (seats : ℕ) → AreSeatsOf seats no_seats
AreSeatsOf-no_seats seats = record { within = λ seat is. let none = no_seats-none seat in absurd cc }

-- Seat numbers count from 1, and tests from 0.
pub with_seat-test : (set : List Bool) (seat : ℕ) → 1 ≤ seat → slice_set set (seat - 1) true ≡ with_seat set seat
with_seat-test set zero low = absurd (omega arith)
with_seat-test set (suc at) low = let same : suc at - 1 ≡ at = omega arith in rw same refl

-- A seat is taken out of a set where the test at the index one below its number is made false.
pub without_seat-test : (set : List Bool) (seat : ℕ) → 1 ≤ seat → slice_set set (seat - 1) false ≡ without_seat set seat
without_seat-test set zero low = absurd (omega arith)
without_seat-test set (suc at) low = let same : suc at - 1 ≡ at = omega arith in rw same refl

-- A set that is not empty has a test that is true.
some-test : (set : List Bool) → 1 ≤ seat_count set → (k : ℕ) × (slice_index_or set k false ≡ true)
some-test [] some = absurd (omega arith)
some-test (true ∷ more) some = (0, refl)
some-test (false ∷ more) some = let later = some-test more some in (suc later.0, later.1)

-- A set that is not empty has a seat.
pub some-seat : (set : List Bool) → 1 ≤ seat_count set → (seat : ℕ) × (1 ≤ seat) × IsTrue (has_seat set seat)
some-seat set some = let test = some-test set some in (suc test.0, omega arith, test.1)

few_seats : (set : List Bool) (seats : ℕ) → ((seat : ℕ) → has_seat set seat ≡ true → seat ≤ seats)
    → seat_count set ≤ seats
few_seats [] seats within = omega arith
few_seats (true ∷ set) zero within = let one = within 1 refl in absurd (omega (arith, one))
few_seats (false ∷ set) zero within =
    let counted = count_by-cons (λ is_in. is_in) false set in
    let rest = few_seats set 0 (later set within) in
    omega (arith, counted, rest)
  where
    later : (set : List Bool) → ((seat : ℕ) → has_seat (false ∷ set) seat ≡ true → seat ≤ 0) → (seat : ℕ)
        → has_seat set seat ≡ true → seat ≤ 0
    later set within zero is = absurd cc
    later set within (suc below) is = let most = within (suc (suc below)) is in omega (arith, most)
few_seats (first ∷ set) (suc seats) within =
    let counted = count_by-cons (λ is_in. is_in) first set in
    let one = at_most_one first in
    let rest = few_seats set seats (later set within) in
    omega (arith, counted, one, rest)
  where
    later : (set : List Bool) → ((seat : ℕ) → has_seat (first ∷ set) seat ≡ true → seat ≤ suc seats) → (seat : ℕ)
        → has_seat set seat ≡ true → seat ≤ seats
    later set within zero is = absurd cc
    later set within (suc below) is = let most = within (suc (suc below)) is in omega (arith, most)

-- A set of seats of a table has no more than the table.
pub seat_count-most : (set : List Bool) (seats : ℕ) → AreSeatsOf seats set → seat_count set ≤ seats
seat_count-most set seats table = few_seats set seats table.within
