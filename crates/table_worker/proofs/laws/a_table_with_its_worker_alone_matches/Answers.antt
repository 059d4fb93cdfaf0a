use Rattle.table_worker.proofs.Matching.{brought-matches}
use Rattle.table_worker.proofs.laws.a_table_with_its_worker_alone_matches.Goals as goal

pub returns : goal.returns
returns c = brought-matches
