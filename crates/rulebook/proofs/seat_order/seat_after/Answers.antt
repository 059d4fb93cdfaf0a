use Rattle.std.proofs.Common.{rules}
use Rattle.rulebook.proofs.seat_order.seat_after.Goals as goal

pub returns-else-seat-seats-clause-next : goal.returns-else-seat-seats-clause-next
returns-else-seat-seats-clause-next c = search rules
