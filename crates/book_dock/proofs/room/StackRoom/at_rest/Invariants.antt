use Rattle.std.proofs.Common.{◌≡◌, ◌≤◌, map, take, vec_capacity, vec_len}
use Rattle.rulebook.specs.Limits.{most_seats}
use Rattle.seat_book.specs.Players.{players_in}
use Rattle.view_rules.specs.Lines.{stack_at_rest}
use Rattle.book_dock.proofs.room.StackRoom.at_rest.Given as goal

-- The lines so far are of the players in the slots so far, no more than the slots, and there is room for ten.
abbrev pub invariant-loop-slot : goal.invariant-loop-slot
invariant-loop-slot l = record {
  made : l.lines.items ≡ map stack_at_rest (players_in (take l.slot-index l.slots));
  few : vec_len l.lines ≤ l.slot-index;
  room : most_seats ≤ vec_capacity l.lines;
}
