use Rattle.tournament_laws.proofs.Orders.{neighbors-accepted, neighbors-after}
use Rattle.tournament_laws.proofs.runs.neighbors_may_change_places.Goals as goal

pub returns-clause-accepted : goal.returns-clause-accepted
returns-clause-accepted c = neighbors-accepted

pub returns-clause-after : goal.returns-clause-after
returns-clause-after c = neighbors-after
