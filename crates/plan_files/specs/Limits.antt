-- The greatest size of a session word. This project's own.
use Rattle.std.specs.Prelude.{ℕ}

-- A session word has at most 32 characters.
abbrev pub longest_session_word : ℕ
longest_session_word = 32
