use Rattle.table_engine.proofs.Plays.{lawful_play-each}
use Rattle.table_engine.proofs.TurnLaws.{time-again, time-free_again}
use Rattle.table_engine.proofs.laws.acts_of_a_hand.Goals as goal

pub returns-clause-free : goal.returns-clause-free
returns-clause-free c = lawful_play-each

pub returns-clause-called : goal.returns-clause-called
returns-clause-called c = time-free_again

pub returns-clause-timed : goal.returns-clause-timed
returns-clause-timed c = time-again
