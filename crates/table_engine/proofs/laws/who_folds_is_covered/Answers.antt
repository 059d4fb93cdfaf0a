use Rattle.table_engine.proofs.Covered.{covered-next, covered-anywhere}
use Rattle.table_engine.proofs.laws.who_folds_is_covered.Goals as goal

pub returns-clause-covered : goal.returns-clause-covered
returns-clause-covered c = covered-next

pub returns-clause-anywhere : goal.returns-clause-anywhere
returns-clause-anywhere c = covered-anywhere
