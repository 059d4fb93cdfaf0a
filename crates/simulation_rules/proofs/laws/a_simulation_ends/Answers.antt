use Rattle.simulation_rules.proofs.WholeRuns.{run-last, run-short, run-stopped}
use Rattle.simulation_rules.proofs.laws.a_simulation_ends.Goals as goal

pub returns-clause-stopped : goal.returns-clause-stopped
returns-clause-stopped c = run-stopped

pub returns-clause-last : goal.returns-clause-last
returns-clause-last c = run-last

pub returns-clause-few : goal.returns-clause-few
returns-clause-few c = run-short
