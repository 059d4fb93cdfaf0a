-- Sets of seats of one table, each seen as ten tests: whether seat 1 is in it, seat 2, and so on.
use Rattle.std.specs.Prelude.{ℕ, zero, suc, ◌≤◌, Bool, true, false, IsTrue, List, [], ◌∷◌, replicate, slice_index_or, slice_set, count_by}

-- The set with no seat.
abbrev pub no_seats : List Bool
no_seats = replicate 10 false

-- A seat is in the set where its test says so; there is no seat 0 and none above 10.
abbrev pub has_seat : List Bool → ℕ → Bool
has_seat set zero = false
has_seat set (suc below) = slice_index_or set below false

-- The set with this seat in it.
abbrev pub with_seat : List Bool → ℕ → List Bool
with_seat set zero = set
with_seat set (suc below) = slice_set set below true

-- The set without this seat.
abbrev pub without_seat : List Bool → ℕ → List Bool
without_seat set zero = set
without_seat set (suc below) = slice_set set below false

-- The set with all seats of a list in it.
abbrev pub with_seats : List Bool → List ℕ → List Bool
with_seats set [] = set
with_seats set (seat ∷ more) = with_seats (with_seat set seat) more

-- How many seats are in the set.
abbrev pub seat_count : List Bool → ℕ
seat_count set = count_by (λ is_in. is_in) set

-- Every seat of the set is a seat of a table of so many seats.
pub record AreSeatsOf (seats : ℕ) (set : List Bool) : Type 0 where
  pub within : (seat : ℕ) → IsTrue (has_seat set seat) → seat ≤ seats
