use Rattle.std.proofs.Common.{◌≡◌}
use Rattle.history_lock.specs.Passes.{lock_id, lock_of}
use Rattle.dock_tests.proofs.lock.fill.Given as goal

-- the pass stays a pass of this lock
abbrev pub invariant-loop-page : goal.invariant-loop-page
invariant-loop-page g l = lock_of l.pass ≡ lock_id l.lock
