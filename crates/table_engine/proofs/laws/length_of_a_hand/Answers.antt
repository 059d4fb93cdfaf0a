use Rattle.table_engine.proofs.TurnLaws.{length-bound}
use Rattle.table_engine.proofs.laws.length_of_a_hand.Goals as goal

pub returns : goal.returns
returns c = length-bound
