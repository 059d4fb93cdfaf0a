use Rattle.table_engine.proofs.Contested.{hand-contested}
use Rattle.table_engine.proofs.laws.showdown_of_a_hand.Goals as goal

pub returns : goal.returns
returns c = hand-contested
