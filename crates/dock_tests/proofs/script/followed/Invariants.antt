use Rattle.std.proofs.Common.{◌≡◌}
use Rattle.history_lock.specs.Passes.{lock_of}
use Rattle.book_dock.specs.Docks.{book_id}
use Rattle.dock_tests.proofs.script.followed.Given as goal

abbrev pub invariant-loop-index : goal.invariant-loop-index
invariant-loop-index g l = lock_of l.pass ≡ book_id l.fn.dock
