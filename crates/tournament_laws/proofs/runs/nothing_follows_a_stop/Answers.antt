use Rattle.tournament_laws.proofs.Stopped.{stopped-refuses, stopped-run}
use Rattle.tournament_laws.proofs.runs.nothing_follows_a_stop.Goals as goal

pub returns-clause-refused : goal.returns-clause-refused
returns-clause-refused c = stopped-refuses

pub returns-clause-unchanged : goal.returns-clause-unchanged
returns-clause-unchanged c = stopped-run
