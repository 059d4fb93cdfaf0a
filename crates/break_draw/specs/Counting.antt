-- An array of counts: that of each table by its number less one. This project's own.
use Rattle.std.specs.Prelude.{◌≡◌, ◌<◌, ◌+◌, ℕ, List, slice_index}

-- An array has the counts of so many tables.
pub record HasCounts (tables : ℕ) (count : ℕ → ℕ) (counts : List ℕ) : Type 0 where
  pub each : (below : ℕ) → below < tables → slice_index counts below ≡ count (below + 1)
