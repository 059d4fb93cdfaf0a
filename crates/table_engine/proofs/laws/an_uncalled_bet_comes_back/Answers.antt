use Rattle.table_engine.proofs.Uncalled.{uncalled-back}
use Rattle.table_engine.proofs.laws.an_uncalled_bet_comes_back.Goals as goal

pub returns : goal.returns
returns c = uncalled-back
