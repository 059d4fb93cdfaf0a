use Rattle.button_blinds.specs.SeatSets.{AreSeatsOf}
use Rattle.rule_tests.proofs.seat_sets.set_of.Given as goal

abbrev pub invariant-loop-seat : goal.invariant-loop-seat
invariant-loop-seat l = AreSeatsOf l.seats l.set
