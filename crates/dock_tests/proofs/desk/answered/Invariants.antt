use Rattle.std.proofs.Common.{◌≡◌}
use Rattle.history_lock.specs.Passes.{lock_of}
use Rattle.table_dock.specs.Docks.{dock_id}
use Rattle.dock_tests.proofs.desk.answered.Given as goal

abbrev pub invariant-loop-index : goal.invariant-loop-index
invariant-loop-index g l = lock_of l.desk ≡ dock_id l.fn.dock
