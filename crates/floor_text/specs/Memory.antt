-- A source and a sink in memory. This project's own.
use Rattle.std.specs.Prelude.{ℕ, ◌+◌, ◌≤◌, Bool, ◌==◌, List, min}
use Rattle.std.specs.List.{list_any}
use Rattle.floor_text.specs.Outside.{last_count}

-- one more, unless the count stands at the end of its type
abbrev pub count_up : ℕ → ℕ
count_up n = min (n + 1) last_count

-- whether the number of the call after so many calls is among those that fail
abbrev pub next_fails : List ℕ → ℕ → Bool
next_fails failing calls = list_any (λ number. number == count_up calls) failing

-- a source: the bytes that it has left, the numbers of its calls that fail, and how many calls were made and failed
pub record MemoryOut : Type 0 where
  pub left : List ℕ
  pub failing : List ℕ
  pub calls : ℕ
  pub faults : ℕ

-- a sink: the bytes that were put, how many it has room for, the numbers of its calls that fail, and how many calls
-- were made and failed
pub record MemoryIn : Type 0 where
  pub bytes : List ℕ
  pub room : ℕ
  pub failing : List ℕ
  pub calls : ℕ
  pub faults : ℕ

-- the bytes given lie in the source
pub record IsMemoryOut (given size : ℕ) : Type 0 where
  pub within : given ≤ size

-- what was put is within the room, and the vector has that room
pub record IsMemoryIn (size capacity room : ℕ) : Type 0 where
  pub within : size ≤ room
  pub fits : room ≤ capacity
