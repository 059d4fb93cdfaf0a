use Rattle.simulation_rules.proofs.WholeRuns.{run-accepted}
use Rattle.simulation_rules.proofs.laws.a_simulated_event_is_accepted.Goals as goal

pub returns : goal.returns
returns c = run-accepted
