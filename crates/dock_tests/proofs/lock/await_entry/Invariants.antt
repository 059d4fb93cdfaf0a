use Rattle.std.proofs.Common.{◌≡◌}
use Rattle.history_lock.specs.Passes.{lock_id, lock_of}
use Rattle.dock_tests.proofs.lock.await_entry.Given as goal

-- the pass stays a pass of this lock
abbrev pub invariant-loop : goal.invariant-loop
invariant-loop g l = lock_of l.pass ≡ lock_id l.lock
