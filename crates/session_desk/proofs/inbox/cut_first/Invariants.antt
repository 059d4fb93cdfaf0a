use Rattle.std.proofs.Common.{◌≡◌, ℕ, ◌-◌, ◌≤◌, List, ◌++◌, length, drop}
use Rattle.std.specs.List.{list_any}
use Rattle.floor_text.specs.Lines.{HasNoFeed, is_line_feed, lines_of_bytes}
use Rattle.session_desk.proofs.inbox.cut_first.Given as goal

-- no line has ended so far, and the rest is what was not looked at
abbrev pub invariant-loop-byte : goal.invariant-loop-byte
invariant-loop-byte l = record {
  shorter : length l.rest ≤ length l.bytes;
  rest : l.rest ≡ drop (length l.bytes - length l.rest) l.bytes;
  lines : (tail : List ℕ) → lines_of_bytes (l.initial.cutter.begun ++ (l.bytes ++ tail))
      ≡ lines_of_bytes (l.cutter.begun ++ (l.rest ++ tail));
  held : list_any is_line_feed l.bytes ≡ list_any is_line_feed l.rest;
  no_feed : HasNoFeed l.initial.cutter.begun → HasNoFeed l.cutter.begun;
}

abbrev pub decreases-loop-byte : goal.decreases-loop-byte
decreases-loop-byte l = length l.rest
