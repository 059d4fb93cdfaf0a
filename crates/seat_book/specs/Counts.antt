-- Counts of tables. This project's own.
use Rattle.std.specs.Prelude.{ℕ, suc, min, max, Bool, nat_lt, List, [], ◌∷◌, map, filter, fold, count_by}
use Rattle.rulebook.specs.Seats.{walk}
use Rattle.seat_book.specs.declared.seated.Seated.{Seated}
use Rattle.seat_book.specs.Players.{sits_at}

-- The count of a table is the number of players who sit at it, in a hand or not.
abbrev pub count_at : List Seated → ℕ → ℕ
count_at players table = count_by (sits_at table) players

-- A table is open where at least one player sits at it.
abbrev pub is_open : List Seated → ℕ → Bool
is_open players table = nat_lt 0 (count_at players table)

-- The numbers of so many tables: 1, 2, and so on.
abbrev pub table_numbers : ℕ → List ℕ
table_numbers tables = walk suc tables 0

-- The counts of the open tables, by number.
abbrev pub open_counts : ℕ → List Seated → List ℕ
open_counts tables players = map (count_at players) (filter (is_open players) (table_numbers tables))

-- The greatest number of a list, and 0 where it has none.
abbrev pub greatest_of : List ℕ → ℕ
greatest_of numbers = fold max 0 numbers

-- The least number of a list, and 0 where it has none.
abbrev pub least_of : List ℕ → ℕ
least_of [] = 0
least_of (number ∷ numbers) = fold min number numbers

-- The greatest count of an open table, and 0 where none is open.
abbrev pub greatest_count : ℕ → List Seated → ℕ
greatest_count tables players = greatest_of (open_counts tables players)

-- The least count of an open table, and 0 where none is open.
abbrev pub least_count : ℕ → List Seated → ℕ
least_count tables players = least_of (open_counts tables players)
