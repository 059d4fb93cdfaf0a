-- Histories that are read in pieces. This project's own.
use Rattle.std.specs.Prelude.{◌+◌, ◌-◌, ℕ, min}

-- Up to which entry a piece goes that begins at this one and has so many at most, of a history of so many entries.
abbrev pub piece_end : ℕ → ℕ → ℕ → ℕ
piece_end first most count = first + min most (count - first)
