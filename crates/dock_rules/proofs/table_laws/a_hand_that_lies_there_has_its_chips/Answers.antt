use Rattle.dock_rules.proofs.Tables.{lying-chips, lying-lawful}
use Rattle.dock_rules.proofs.table_laws.a_hand_that_lies_there_has_its_chips.Goals as goal

pub returns-clause-start : goal.returns-clause-start
returns-clause-start c = λ history hand legal lies_there. (lying-lawful history hand legal lies_there).start

pub returns-clause-play : goal.returns-clause-play
returns-clause-play c = λ history hand legal lies_there. (lying-lawful history hand legal lies_there).play

pub returns-clause-chips : goal.returns-clause-chips
returns-clause-chips c = lying-chips
