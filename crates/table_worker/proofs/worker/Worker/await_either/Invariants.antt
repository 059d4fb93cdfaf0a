use Rattle.std.proofs.Common.{◌≡◌}
use Rattle.table_worker.specs.Workers.{IsSameWorker, has_ended}
use Rattle.table_worker.proofs.worker.Worker.await_either.Given as goal

-- the worker is the one that began to wait
abbrev pub invariant-loop : goal.invariant-loop
invariant-loop g l = IsSameWorker l.fn.self l.worker × (has_ended l.worker ≡ has_ended l.fn.self)
