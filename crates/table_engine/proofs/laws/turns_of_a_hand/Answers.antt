use Rattle.table_engine.proofs.TurnLaws.{due-somebody, due-behind, due-can_fold}
use Rattle.table_engine.proofs.laws.turns_of_a_hand.Goals as goal

pub returns-clause-somebody : goal.returns-clause-somebody
returns-clause-somebody c = due-somebody

pub returns-clause-behind : goal.returns-clause-behind
returns-clause-behind c = due-behind

pub returns-clause-free : goal.returns-clause-free
returns-clause-free c = due-can_fold
