use Rattle.dock_rules.proofs.Tables.{lies-workers, openings-workers}
use Rattle.dock_rules.proofs.table_laws.the_worker_knows_of_each_hand.Goals as goal

pub returns-clause-openings : goal.returns-clause-openings
returns-clause-openings c = openings-workers

pub returns-clause-lies : goal.returns-clause-lies
returns-clause-lies c = lies-workers
