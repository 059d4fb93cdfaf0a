use Rattle.std.proofs.Common.{◌≡◌}
use Rattle.history_lock.proofs.entering.wait_turn.Given as goal

-- while it waits, the seat stays as it was
abbrev pub invariant-loop : goal.invariant-loop
invariant-loop g l = (l.seat.table_id ≡ l.initial.seat.table_id) × (l.seat.id ≡ l.initial.seat.id)
    × (l.seat.me ≡ l.initial.seat.me)
