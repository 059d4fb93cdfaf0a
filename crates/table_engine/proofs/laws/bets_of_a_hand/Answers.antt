use Rattle.table_engine.proofs.LimitedBets.{all-raises, all-wagers, puts-bound}
use Rattle.table_engine.proofs.laws.bets_of_a_hand.Goals as goal

pub returns-clause-put : goal.returns-clause-put
returns-clause-put c = puts-bound

pub returns-clause-wagers : goal.returns-clause-wagers
returns-clause-wagers c = all-wagers

pub returns-clause-raises : goal.returns-clause-raises
returns-clause-raises c = all-raises
