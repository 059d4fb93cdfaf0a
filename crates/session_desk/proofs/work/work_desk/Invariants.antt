use Rattle.std.proofs.Common.{◌≡◌}
use Rattle.std.specs.Prelude.{vec_len}
use Rattle.session_desk.specs.Desks.{IsDeskOf}
use Rattle.session_desk.proofs.Working.{IsAtWork}
use Rattle.session_desk.proofs.work.work_desk.Given as goal

-- the desk is one of the book and the docks, it has yet to begin or has worked, and the door has not failed
abbrev pub invariant-loop : goal.invariant-loop
invariant-loop g l = record {
  desk : IsDeskOf l.book l.docks.items l.desk;
  worked : IsAtWork g.D.Door.told g.D.L.Link.told g.D.L.Link.faults l.words (vec_len l.docks) l.initial.door l.door
      l.initial.desk l.desk;
  faults : g.D.Door.faults l.door ≡ g.D.Door.faults l.initial.door;
}
