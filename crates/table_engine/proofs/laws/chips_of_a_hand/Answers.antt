use Rattle.table_engine.proofs.Chips.{chips-in_play, chips-within}
use Rattle.table_engine.proofs.ChipsAfter.{chips-after, chips-players, gets-pot}
use Rattle.table_engine.proofs.SomePut.{pots-all}
use Rattle.table_engine.proofs.laws.chips_of_a_hand.Goals as goal

pub returns-clause-in_play : goal.returns-clause-in_play
returns-clause-in_play c = chips-in_play

pub returns-clause-within : goal.returns-clause-within
returns-clause-within c = chips-within

pub returns-clause-pots : goal.returns-clause-pots
returns-clause-pots c = pots-all

pub returns-clause-awards : goal.returns-clause-awards
returns-clause-awards c = gets-pot

pub returns-clause-after : goal.returns-clause-after
returns-clause-after c = chips-after

pub returns-clause-players : goal.returns-clause-players
returns-clause-players c = chips-players
