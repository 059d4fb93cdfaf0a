use Rattle.std.proofs.Common.{rules}
use Rattle.rulebook.proofs.seat_order.seat_before.Goals as goal

pub returns-else-seat-gt1-clause-next : goal.returns-else-seat-gt1-clause-next
returns-else-seat-gt1-clause-next c = search rules
