-- The greatest size of an input. This project's own.
use Rattle.std.specs.Prelude.{ℕ}

-- The lines of a tournament have at most 268,435,456 bytes, 2 ^ 28.
abbrev pub input_limit : ℕ
input_limit = 268435456
