-- What a reader of lines holds. This project's own.
use Rattle.std.specs.Prelude.{◌≡◌, ℕ, ◌+◌, ◌-◌, ◌<◌, ◌≤◌, Bool, true, List, length, nat_lt, if◌then◌else◌}

-- the bytes taken and not handed out, the line handed out last, how many bytes were taken, the limit, and whether the
-- source had come to its end when the last line was handed out
pub record Reading : Type 0 where
  pub held : List ℕ
  pub line : List ℕ
  pub taken : ℕ
  pub limit : ℕ
  pub ended : Bool

-- how many bytes may still be handed out: those held, and those that may be taken up to one past the limit
abbrev pub bytes_ahead : Reading → ℕ
bytes_ahead r = length r.held + (r.limit + 1 - r.taken)

-- how many of the held bytes are among the first `limit` of the source: all, or all but the last
abbrev pub held_within : Reading → ℕ
held_within r = if nat_lt r.limit r.taken then length r.held - 1 else length r.held

-- the bytes that may still be taken are counted down from the limit, and one byte past it is the last taken; nothing is
-- held at the end
pub record IsReading (held : List ℕ) (limit within : ℕ) (over ended : Bool) : Type 0 where
  pub counted : within ≤ limit
  pub at_limit : over ≡ true → within ≡ 0
  pub past_limit : over ≡ true → 0 < length held
  pub at_end : ended ≡ true → length held ≡ 0
