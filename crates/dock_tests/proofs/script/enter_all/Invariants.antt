use Rattle.std.proofs.Common.{◌≡◌}
use Rattle.history_lock.specs.Passes.{lock_of}
use Rattle.book_dock.specs.Docks.{book_id}
use Rattle.dock_tests.proofs.script.enter_all.Given as goal

abbrev pub invariant-loop-number : goal.invariant-loop-number
invariant-loop-number g l = lock_of l.pass ≡ book_id l.fn.dock
