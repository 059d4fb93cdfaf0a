-- How many members a word may have. This project's own.
use Rattle.std.specs.Prelude.{ℕ}

-- A list has at most 10 members, one for each seat of a table.
abbrev pub most_members : ℕ
most_members = 10
