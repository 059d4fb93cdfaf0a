use Rattle.std.proofs.Common.{◌≡◌, ℕ, ◌+◌, ◌≤◌, [], vec_capacity, vec_len}
use Rattle.history_lock.specs.Passes.{AreFresh}
use Rattle.history_lock.specs.Views.{first_share}
use Rattle.history_lock.proofs.Dealing.{giving}
use Rattle.history_lock.proofs.making.deal.Given as goal

-- the passes so far are fresh, and the seat has the shares of the others
abbrev pub invariant-loop-number : goal.invariant-loop-number
invariant-loop-number g l =
    let seen = (first_share l.initial.seat.me.0.shares).seen in
    (l.seat.table_id ≡ l.initial.seat.table_id)
    × (l.seat.me.1 ≡ [])
    × ((m : ℕ) × (l.number + m ≡ l.n) × (l.seat.me.0 ≡ giving l.number m seen))
    × (vec_len l.passes ≡ l.number)
    × (l.n ≤ vec_capacity l.passes)
    × AreFresh l.initial.seat.table_id seen l.passes.items
