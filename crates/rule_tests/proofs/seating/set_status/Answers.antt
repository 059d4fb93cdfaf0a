-- The unit is not 0, and the marks and the unit of a race were looked at.
use Rattle.std.proofs.Common.{arith, rules}
use Rattle.rule_tests.proofs.seating.set_status.Goals as goal

pub set_status-requires-clause-status : goal.set_status-requires-clause-status
set_status-requires-clause-status c = record {
  marks = λ x is. rw c.seat_count.ensures.seats at (c.are_marks.ensures c.if-not-are_marks.false x is);
  unit = omega arith;
  race = search rules;
}
