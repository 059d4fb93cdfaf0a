-- Which tables are halted. This project's own.
use Rattle.std.specs.Prelude.{ℕ, ◌+◌, Bool, nat_le, if◌then◌else◌}
use Rattle.seat_book.specs.Seatings.{Seating}
use Rattle.seat_book.specs.Counts.{count_at, greatest_count}

-- The gap is 3 players at tables of seven or more seats, else 2.
abbrev pub halting_gap : ℕ → ℕ
halting_gap seats = if nat_le 7 seats then 3 else 2

-- A table is halted where its count is lower than that of a fullest open table by the gap or more.
abbrev pub is_halted : Seating → ℕ → Bool
is_halted seating table =
    nat_le (count_at seating.players table + halting_gap seating.seat_count)
    (greatest_count seating.table_count seating.players)
