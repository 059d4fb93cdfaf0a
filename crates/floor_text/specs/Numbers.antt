-- Numbers of a line. This project's own.
use Rattle.std.specs.Prelude.{ℕ, ◌≤◌, Bool, false, ◌==◌, ◌&&◌, not, nat_le, List, [], ◌∷◌, Option, Some, None, if◌then◌else◌}
use Rattle.std.specs.Char.{is_ascii_digit}
use Rattle.std.specs.List.{list_all}
use Rattle.std.specs.Str.Parse.{digits_value}
use Rattle.floor_text.specs.Limits.{greatest_number}

-- a number in a line is at most 2 ^ 53 - 1
abbrev pub IsLineNumber : ℕ → Type 0
IsLineNumber n = n ≤ greatest_number

-- digits with no zero in front, or the one digit 0
abbrev pub is_spelled : List ℕ → Bool
is_spelled [] = false
is_spelled (only ∷ []) = is_ascii_digit only
is_spelled (first ∷ second ∷ rest) = not (first == 48) && list_all is_ascii_digit (first ∷ second ∷ rest)

-- the number that the bytes spell, or None where they spell no number of a line
unfoldable pub number_of : List ℕ → Option ℕ
number_of bytes =
    if is_spelled bytes && nat_le (digits_value 10 bytes) greatest_number then Some (digits_value 10 bytes) else None
