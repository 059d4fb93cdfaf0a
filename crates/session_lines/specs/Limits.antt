-- The greatest size of a reply. This project's own.
use Rattle.std.specs.Prelude.{ℕ}

-- A reply has at most 64 bytes, with its line feed.
abbrev pub longest_reply : ℕ
longest_reply = 64
