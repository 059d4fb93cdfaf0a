-- Bytes that were taken from a source and wait in a buffer. This project's own.
use Rattle.std.specs.Prelude.{◌≡◌, ℕ, ◌+◌, ◌<◌, ◌≤◌, List, ◌++◌, length, take, drop, slice_index, Option, Some}
use Rattle.floor_text.specs.declared.limits.TheConstants.{BLOCK, KEPT}
use Rattle.floor_text.specs.Lines.{HasNoFeed}

-- the bytes that wait, and the line handed out last
pub record Holding : Type 0 where
  pub held : List ℕ
  pub line : List ℕ

-- a buffer takes a block of bytes behind those that may be kept of a line
abbrev pub buffer_length : ℕ
buffer_length = BLOCK + KEPT

-- what waits and the line lie in the buffer
pub record IsHolding (length start end line_start line_end : ℕ) : Type 0 where
  pub size : length ≡ buffer_length
  pub order : start ≤ end
  pub within : end ≤ length
  pub line_order : line_start ≤ line_end
  pub line_within : line_end ≤ length

-- the first line feed of the bytes
pub record IsFirstFeed (bytes : List ℕ) (at : ℕ) : Type 0 where
  pub within : at < length bytes
  pub before : HasNoFeed (take at bytes)
  pub feed : slice_index bytes at ≡ 10

-- n bytes came from a source that had some bytes left, and stand at the front of the buffer; none come only at the
-- end, or where none were asked for
pub record Gives (bytes : List ℕ) (left : Option (List ℕ)) (buffer : List ℕ) (ask n : ℕ) : Type 0 where
  pub within : n ≤ length bytes
  pub rest : left ≡ Some (drop n bytes)
  pub given : take n buffer ≡ take n bytes
  pub at_end : 0 < ask → n ≡ 0 → length bytes ≡ 0

-- the bytes that came stand behind those that were kept
pub record Fills (kept bytes : List ℕ) (left : Option (List ℕ)) (held : List ℕ) (ask n : ℕ) : Type 0 where
  pub within : n ≤ length bytes
  pub rest : left ≡ Some (drop n bytes)
  pub behind : held ≡ kept ++ take n bytes
  pub at_end : 0 < ask → n ≡ 0 → length bytes ≡ 0
