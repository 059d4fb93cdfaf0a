-- What a cutter of lines holds. This project's own.
use Rattle.std.specs.Prelude.{ℕ, ◌≤◌, List, length}
use Rattle.floor_text.specs.declared.limits.TheConstants.{KEPT}
use Rattle.floor_text.specs.Lines.{HasNoFeed}

-- the bytes since the last line feed, of a long line the first 401, and the line handed out last
pub record Cutting : Type 0 where
  pub begun : List ℕ
  pub line : List ℕ

-- what is begun holds no line feed, and both rows have room for 401 bytes
pub record IsCutting (begun : List ℕ) (room other_room : ℕ) : Type 0 where
  pub no_feed : HasNoFeed begun
  pub within : length begun ≤ KEPT
  pub fits : KEPT ≤ room
  pub other_fits : KEPT ≤ other_room
