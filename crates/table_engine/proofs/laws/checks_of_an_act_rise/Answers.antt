use Rattle.table_engine.proofs.Rising.{checks-rise}
use Rattle.table_engine.proofs.laws.checks_of_an_act_rise.Goals as goal

pub returns : goal.returns
returns c = checks-rise
