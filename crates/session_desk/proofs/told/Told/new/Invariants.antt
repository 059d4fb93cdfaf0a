use Rattle.std.proofs.Common.{◌≡◌, ◌≤◌, None, replicate, vec_capacity}
use Rattle.session_desk.proofs.told.Told.new.Given as goal

abbrev pub invariant-loop : goal.invariant-loop
invariant-loop l = (l.watches.items ≡ replicate l.counter None) × (l.tables ≤ vec_capacity l.watches)
