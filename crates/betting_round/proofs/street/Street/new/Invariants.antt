use Rattle.betting_round.specs.StreetActs.{street_start}
use Rattle.betting_round.proofs.SeatBySeat.{IsUpTo}
use Rattle.betting_round.proofs.street.Street.new.Given as goal

-- The players of the seats up to here stand on the street.
abbrev pub invariant-loop-index : goal.invariant-loop-index
invariant-loop-index l =
    IsUpTo (street_start l.bettors l.after l.opening l.big l.unit l.counted) l.index l.street
