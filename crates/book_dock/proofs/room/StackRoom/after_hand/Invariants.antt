use Rattle.std.proofs.Common.{◌≡◌, ◌≤◌, map, take, vec_capacity}
use Rattle.rulebook.specs.Limits.{most_seats}
use Rattle.view_rules.specs.Lines.{stack_after}
use Rattle.book_dock.proofs.room.StackRoom.after_hand.Given as goal

-- The lines so far are of the players so far, and there is room for ten.
abbrev pub invariant-loop-player : goal.invariant-loop-player
invariant-loop-player l = record {
  made : l.lines.items ≡ map (stack_after l.table) (take l.player-index l.players);
  room : most_seats ≤ vec_capacity l.lines;
}
