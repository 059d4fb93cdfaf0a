-- The greatest sizes of a tournament. This project's own.
use Rattle.std.specs.Prelude.{ℕ}

-- A tournament has at most 64 tables.
abbrev pub most_tables : ℕ
most_tables = 64

-- A table has at most 10 seats.
abbrev pub most_seats : ℕ
most_seats = 10

-- A tournament has at most 640 entries, and so at most 640 players who sit or are out.
abbrev pub most_entries : ℕ
most_entries = 640
