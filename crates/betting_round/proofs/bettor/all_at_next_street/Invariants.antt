use Rattle.std.proofs.Common.{◌≡◌, ◌++◌, take, drop, map}
use Rattle.std.specs.Prelude.{option_map}
use Rattle.betting_round.specs.StreetActs.{at_next_street}
use Rattle.betting_round.proofs.bettor.all_at_next_street.Given as goal

-- the players up to here are at the next street, and the others as they were
abbrev pub invariant-loop-index : goal.invariant-loop-index
invariant-loop-index l = l.bettors ≡ map (option_map at_next_street)
    (take l.index l.players) ++ drop l.index l.initial.bettors
