-- The greatest and the least count of the open tables bound the count of each.
use Rattle.std.proofs.Common.{◌≡◌, ap, ℕ, zero, suc, ◌+◌, ◌<◌, ◌≤◌, Bool, true, ◌==◌, List, [], ◌∷◌, max, min, map, inl, inr, arith}
use Rattle.std.specs.Prelude.{filter, fold}
use Rattle.std.proofs.lemmas.Bool.{cases_eq, eq-eqb, eqb-true, or_left, or_right, or_cases}
use Rattle.rulebook.specs.Seats.{walk}
use Rattle.rulebook.proofs.Among.{is_among, among-filter, among-passes}
use Rattle.seat_book.specs.declared.seated.Seated.{Seated}
use Rattle.seat_book.specs.Places.{IsTableOf}
use Rattle.seat_book.specs.Counts.{count_at, is_open, table_numbers, greatest_count, least_count, least_of}

among-walk : (steps from number : ℕ) → from < number → number ≤ from + steps
    → is_among number (walk suc steps from) ≡ true
among-walk zero from number above within = absurd (omega arith)
among-walk (suc steps) from number above within = elim (cases_eq (suc from) number) [
  | inl here ↦ or_left (suc from == number) (is_among number (walk suc steps (suc from)))
      (eq-eqb (suc from) number here)
  | inr later ↦ or_right (suc from == number) (is_among number (walk suc steps (suc from)))
      (among-walk steps (suc from) number (omega arith) (omega arith))
]

-- The number of a table is among those of all tables.
pub among-tables : (tables table : ℕ) → IsTableOf tables table → is_among table (table_numbers tables) ≡ true
among-tables tables table at = among-walk tables 0 table (omega (arith, at.first)) (omega (arith, at.last))

among-bounds : (steps from number : ℕ) → is_among number (walk suc steps from) ≡ true
    → (from < number) × (number ≤ from + steps)
among-bounds zero from number among = absurd cc
among-bounds (suc steps) from number among =
    elim (or_cases (suc from == number) (is_among number (walk suc steps (suc from))) among) [
      | inl here ↦ let same : suc from ≡ number = eqb-true (suc from) number here in
          (omega (arith, same), omega (arith, same))
      | inr later ↦ let rest = among-bounds steps (suc from) number later in
          (omega (arith, rest.0), omega (arith, rest.1))
    ]

-- A number among those of all tables that pass a test passes it, and is that of a table.
pub tables-among : (test : ℕ → Bool) (tables table : ℕ) → is_among table (filter test (table_numbers tables)) ≡ true
    → (test table ≡ true) × IsTableOf tables table
tables-among test tables table among =
    let parts = among-passes test table (table_numbers tables) among in
    let bounds = among-bounds tables 0 table parts.1 in
    (parts.0, table_of (omega (arith, bounds.0)) (omega (arith, bounds.1)))
  where
    table_of : 1 ≤ table → table ≤ tables → IsTableOf tables table
    table_of first last = record { first = first; last = last }

max-start : (start : ℕ) (numbers : List ℕ) → start ≤ fold max start numbers
max-start start [] = omega arith
max-start start (number ∷ numbers) = let rest = max-start (max start number) numbers in omega (arith, rest)

min-start : (start : ℕ) (numbers : List ℕ) → fold min start numbers ≤ start
min-start start [] = omega arith
min-start start (number ∷ numbers) = let rest = min-start (min start number) numbers in omega (arith, rest)

max-bounds : (value : ℕ → ℕ) (number start : ℕ) (numbers : List ℕ) → is_among number numbers ≡ true
    → value number ≤ fold max start (map value numbers)
max-bounds value number start [] among = absurd cc
max-bounds value number start (first ∷ numbers) among =
    elim (or_cases (first == number) (is_among number numbers) among) [
      | inl here ↦
          let same : value first ≡ value number = ap value (eqb-true first number here) in
          let rest = max-start (max start (value first)) (map value numbers) in
          omega (arith, same, rest)
      | inr later ↦ max-bounds value number (max start (value first)) numbers later
    ]

min-bounds : (value : ℕ → ℕ) (number start : ℕ) (numbers : List ℕ) → is_among number numbers ≡ true
    → fold min start (map value numbers) ≤ value number
min-bounds value number start [] among = absurd cc
min-bounds value number start (first ∷ numbers) among =
    elim (or_cases (first == number) (is_among number numbers) among) [
      | inl here ↦
          let same : value first ≡ value number = ap value (eqb-true first number here) in
          let rest = min-start (min start (value first)) (map value numbers) in
          omega (arith, same, rest)
      | inr later ↦ min-bounds value number (min start (value first)) numbers later
    ]

least-bounds : (value : ℕ → ℕ) (number : ℕ) (numbers : List ℕ) → is_among number numbers ≡ true
    → least_of (map value numbers) ≤ value number
least-bounds value number [] among = absurd cc
least-bounds value number (first ∷ numbers) among = elim (or_cases (first == number) (is_among number numbers) among) [
  | inl here ↦
      let same : value first ≡ value number = ap value (eqb-true first number here) in
      let rest = min-start (value first) (map value numbers) in
      omega (arith, same, rest)
  | inr later ↦ min-bounds value number (value first) numbers later
]

module _ (tables table : ℕ) (players : List Seated) (at : IsTableOf tables table)
    (opened : is_open players table ≡ true) where
  here : is_among table (filter (is_open players) (table_numbers tables)) ≡ true
  here = among-filter (is_open players) table (table_numbers tables) opened (among-tables tables table at)

  -- No open table has more players than the greatest count says.
  pub greatest-above : count_at players table ≤ greatest_count tables players
  greatest-above = max-bounds (count_at players) table 0 (filter (is_open players) (table_numbers tables)) here

  -- No open table has fewer players than the least count says.
  pub least-below : least_count tables players ≤ count_at players table
  least-below = least-bounds (count_at players) table (filter (is_open players) (table_numbers tables)) here
