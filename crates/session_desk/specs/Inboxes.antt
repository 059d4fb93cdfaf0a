-- What waits in the inbox of a session. This project's own.
use Rattle.std.specs.Prelude.{◌≡◌, ◌<◌, ◌≤◌, ℕ, Bool, true, List, [], ◌++◌, length, Option, Some, None, Result, Ok, Err}
use Rattle.std.specs.List.{list_any}
use Rattle.floor_text.specs.Lines.{HasNoFeed, is_line_feed}
use Rattle.floor_text.specs.Memory.{count_up}
use Rattle.floor_text.specs.declared.line_cutter.Cut.{Cut}
use Rattle.floor_text.specs.declared.line_cutter.Cut.TheVariants.{Line, TooLong}
use Rattle.floor_text.specs.declared.outside.Failed.{Failed}
use Rattle.links.specs.Telling.{Telling}
use Rattle.links.specs.declared.link.Taken.{Taken}
use Rattle.links.specs.declared.link.Taken.TheVariants.{Bytes, End, Idle}

-- The bytes of the line begun, of a long line the first 401; the bytes that were taken and not looked at yet; the line
-- handed out last; and whether the link gave its end.
pub record Waiting : Type 0 where
  pub begun : List ℕ
  pub unread : List ℕ
  pub line : List ℕ
  pub ended : Bool

-- All bytes that wait to be handled.
abbrev pub waiting : Waiting → List ℕ
waiting inbox = inbox.begun ++ inbox.unread

-- whether a whole line is held
abbrev pub is_line_held : List ℕ → Bool
is_line_held bytes = list_any is_line_feed bytes

-- What is begun has no line feed, and what is unread lies in the buffer, which has room.
pub record IsInbox (begun : List ℕ) (start end room : ℕ) : Type 0 where
  pub no_feed : HasNoFeed begun
  pub order : start ≤ end
  pub within : end ≤ room
  pub some : 0 < room

-- the line that a cut hands out, none where it is too long
abbrev pub line_of_cut : Cut → List ℕ → Option (List ℕ)
line_of_cut Line line = Some line
line_of_cut TooLong line = None

-- what a link tells after a take that brought these bytes
abbrev pub gave : Result Taken Failed → List ℕ → Telling → Telling
gave (Ok (Bytes n)) bytes t = record t { given = t.given ++ bytes }
gave (Ok End) bytes t = record t { ended = true }
gave (Ok Idle) bytes t = record t { idles = count_up t.idles }
gave (Err failed) bytes t = t

-- what is unread after a take
abbrev pub IsUnread : Taken → List ℕ → Type 0
IsUnread (Bytes n) unread = 0 < length unread
IsUnread End unread = unread ≡ []
IsUnread Idle unread = unread ≡ []
