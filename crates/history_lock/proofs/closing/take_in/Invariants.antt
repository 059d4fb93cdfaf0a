use Rattle.std.proofs.Common.{◌≡◌, ◌++◌, [], All, None, false, map, vec_len}
use Rattle.history_lock.specs.Passes.{lock_of, share_of}
use Rattle.history_lock.proofs.closing.take_in.Given as goal

-- the seat has the shares of the passes that it took in, and the others are left
abbrev pub invariant-loop-pass : goal.invariant-loop-pass
invariant-loop-pass g l =
    (l.seat.table_id ≡ l.steps.table_id)
    × ((l.seat.me.0.ticket ≡ None) × (l.seat.me.0.served ≡ false) × (l.seat.me.1 ≡ []))
    × (map share_of l.fn.passes.items ≡ map share_of l.passes.items ++ l.seat.me.0.shares)
    × All (λ p. lock_of p ≡ l.steps.table_id) l.passes.items

abbrev pub decreases-loop-pass : goal.decreases-loop-pass
decreases-loop-pass g l = vec_len l.passes
