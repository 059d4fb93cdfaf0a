use Rattle.std.proofs.Common.{◌≡◌}
use Rattle.session_desk.specs.Telling.{reach_of, viewer_of}
use Rattle.session_desk.proofs.AllTold.{AreToldTo}
use Rattle.session_desk.proofs.desk.Desk.tell.Given as goal

abbrev pub invariant-loop-index : goal.invariant-loop-index
invariant-loop-index g l = record {
  told : AreToldTo l.index (viewer_of l.initial.told.speaker) l.initial.desk l.desk (reach_of l.initial.told)
      (reach_of l.told) l.initial.found.behind l.found.behind l.initial.out.items l.out.items;
  stopped : l.found.stopped ≡ l.initial.found.stopped;
}
