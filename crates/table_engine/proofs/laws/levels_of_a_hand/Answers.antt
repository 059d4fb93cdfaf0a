use Rattle.table_engine.proofs.TurnLaws.{level-on_street}
use Rattle.table_engine.proofs.laws.levels_of_a_hand.Goals as goal

pub returns : goal.returns
returns c = level-on_street
