use Rattle.table_engine.proofs.Stacks.{numbers-after, names-after, seats-after, stacks-after}
use Rattle.table_engine.proofs.ChipsAfter.{stacks-whole}
use Rattle.table_engine.proofs.StacksAfter.{stacks-playable}
use Rattle.table_engine.proofs.laws.players_of_a_hand.Goals as goal

pub returns-clause-numbers : goal.returns-clause-numbers
returns-clause-numbers c = numbers-after

pub returns-clause-names : goal.returns-clause-names
returns-clause-names c = names-after

pub returns-clause-seats : goal.returns-clause-seats
returns-clause-seats c = seats-after

pub returns-clause-stacks : goal.returns-clause-stacks
returns-clause-stacks c = stacks-after

pub returns-clause-playable : goal.returns-clause-playable
returns-clause-playable c = stacks-playable

pub returns-clause-whole : goal.returns-clause-whole
returns-clause-whole c = stacks-whole
