use Rattle.std.proofs.Common.{◌≡◌}
use Rattle.history_lock.specs.Passes.{pass_number}
use Rattle.table_worker.specs.Workers.{IsWorkerOf}
use Rattle.table_worker.proofs.work.work_table.Given as goal

-- the worker has the passes that were given
abbrev pub invariant-loop : goal.invariant-loop
invariant-loop g l =
    IsWorkerOf l.book l.dock l.worker × (pass_number l.worker.book ≡ pass_number l.fn.book_pass)
    × (l.worker.table ≡ l.fn.table)
