use Rattle.std.proofs.Common.{◌≤◌, vec_len}
use Rattle.session_desk.specs.Desks.{IsDeskOf}
use Rattle.session_desk.proofs.UnderWay.{IsUnderWay}
use Rattle.session_desk.proofs.sessions.run_session.Given as goal

-- the session is under way since the start, at the same desk
abbrev pub invariant-loop : goal.invariant-loop
invariant-loop g l = record {
  desk : IsDeskOf l.book l.docks.items l.session.desk;
  later : g.L.Link.faults l.initial.link ≤ g.L.Link.faults l.link;
  way : IsUnderWay g.L.Link.told l.words (vec_len l.docks) l.initial.link l.link l.initial.session.desk l.session;
}
