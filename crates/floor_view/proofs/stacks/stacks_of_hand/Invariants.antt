use Rattle.std.proofs.Common.{◌≡◌, map, take}
use Rattle.floor_view.specs.Stacks.{stack_now}
use Rattle.floor_view.proofs.stacks.stacks_of_hand.Given as goal

abbrev pub invariant-loop-player : goal.invariant-loop-player
invariant-loop-player l =
    l.stacks.items ≡ map (stack_now l.seats.players l.start.table) (take l.player-index l.player-items)
