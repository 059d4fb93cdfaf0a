use Rattle.session_desk.specs.Desks.{IsDeskOf}
use Rattle.server_tests.proofs.sessions.talks.go_on.Given as goal

-- the session's desk stays one of this hall
abbrev pub invariant-loop : goal.invariant-loop
invariant-loop g l = IsDeskOf l.fn.hall.book l.fn.hall.docks.items l.session.desk
