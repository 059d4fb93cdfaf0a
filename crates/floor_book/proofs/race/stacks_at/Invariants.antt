use Rattle.std.proofs.Common.{◌≡◌, ◌++◌, take, drop}
use Rattle.tournament_rules.specs.Racing.{stacks_at}
use Rattle.floor_book.proofs.race.stacks_at.Given as goal

-- The seats that are passed have their stacks.
abbrev pub invariant-loop-below : goal.invariant-loop-below
invariant-loop-below l =
    l.stacks ≡ take l.below (stacks_at l.seats.players l.table) ++ drop l.below l.initial.stacks
