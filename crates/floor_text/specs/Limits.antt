-- The greatest sizes of what a line holds. This project's own.
use Rattle.std.specs.Prelude.{ℕ}

-- A line has at most 400 bytes, its line feed not counted.
abbrev pub longest_line : ℕ
longest_line = 400

-- A name has at most 16 characters.
abbrev pub longest_name : ℕ
longest_name = 16

-- A number that a line holds is at most 2 ^ 53 - 1.
abbrev pub greatest_number : ℕ
greatest_number = 9007199254740991
