use Rattle.std.proofs.Common.{arith}
use Rattle.betting_round.proofs.Steps.{kept_start, street_start_is}
use Rattle.betting_round.proofs.SeatBySeat.{pot-few, up_to-all, up_to-more, up_to-none}
use Rattle.betting_round.proofs.street.Street.new.Goals as goal
use Rattle.betting_round.proofs.street.Street.new.Goals.{in-Some, in_default}

pub overflow_add-street : goal.overflow_add-street
overflow_add-street c =
    omega (
      arith,
      pot-few _ c.loop-index.index c.loop-index.street c.in-Some.bettor c.requires (omega arith)
          c.in-Some.is c.loop-index.invariant,
    )

pub loop-index-preserved : goal.loop-index-preserved
loop-index-preserved c = elim c.match-bettors-index.branch [
  | in-Some w ↦ rw (w.street-is, w.max.ensures) (up_to-more _ c.loop-index.index c.loop-index.street w.in-Some.bettor
      c.told-bettors c.loop-index-test.true w.in-Some.is c.loop-index.invariant)
  | in_default w ↦ rw w.street-is (up_to-none _ c.loop-index.index c.loop-index.street c.told-bettors
      c.loop-index-test.true w.in_default.is c.loop-index.invariant)
]

pub returns-clause-is : goal.returns-clause-is
returns-clause-is c =
    up_to-all _ c.loop-index.index c.loop-index.street c.told-bettors c.loop-index-test.false c.loop-index.invariant

pub returns-clause-kept : goal.returns-clause-kept
returns-clause-kept c =
    rw (
      up_to-all _ c.loop-index.index c.loop-index.street c.told-bettors c.loop-index-test.false c.loop-index.invariant,
      street_start_is,
    ) (kept_start _ c.requires)
