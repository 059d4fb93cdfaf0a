use Rattle.std.specs.Prelude.{IfSome, slice_get}
use Rattle.table_worker.specs.Workers.{IsWorkerOf}
use Rattle.session_desk.specs.Desks.{IsDeskOf}
use Rattle.server_tests.proofs.sessions.scene.act_all.Given as goal

-- the cast stays that of this hall
abbrev pub invariant-loop-deed : goal.invariant-loop-deed
invariant-loop-deed g l = record {
  first : IfSome (slice_get l.fn.hall.docks.items 0) (λ dock. IsWorkerOf l.fn.hall.book dock l.cast.first);
  second : IfSome l.cast.second (λ worker. IfSome (slice_get l.fn.hall.docks.items 1)
      (λ dock. IsWorkerOf l.fn.hall.book dock worker));
  desk : IsDeskOf l.fn.hall.book l.fn.hall.docks.items l.cast.desk;
  other : IsDeskOf l.fn.hall.book l.fn.hall.docks.items l.cast.other.session.desk;
}
