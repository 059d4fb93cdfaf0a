use Rattle.std.proofs.Common.{◌≡◌, map, take}
use Rattle.seat_book.specs.Players.{players_in}
use Rattle.view_rules.specs.Lines.{stack_at_rest}
use Rattle.floor_view.proofs.stacks.stacks_in.Given as goal

abbrev pub invariant-loop-slot : goal.invariant-loop-slot
invariant-loop-slot l = l.stacks.items ≡ map stack_at_rest (players_in (take l.slot-index l.slots))
