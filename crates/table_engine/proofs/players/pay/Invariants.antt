use Rattle.std.proofs.Common.{◌≡◌, ◌++◌, map, take, drop}
use Rattle.betting_round.specs.WhoIsDue.{player_in}
use Rattle.table_engine.specs.Awards.{stack_after}
use Rattle.table_engine.proofs.players.pay.Given as goal

-- The stacks up to this index are those of the players, and the others are as they were.
abbrev pub invariant-loop-index : goal.invariant-loop-index
invariant-loop-index l =
    l.stacks
    ≡ map (λ player. stack_after l.awards player.seat (player_in l.round.players player.seat)) (take l.index l.players)
    ++ drop l.index l.initial.stacks
