use Rattle.session_desk.specs.Desks.{IsDeskOf}
use Rattle.server_tests.proofs.sessions.talks.ask_each.Given as goal

-- the desk stays one of this hall
abbrev pub invariant-loop-row : goal.invariant-loop-row
invariant-loop-row g l = IsDeskOf l.fn.hall.book l.fn.hall.docks.items l.desk
