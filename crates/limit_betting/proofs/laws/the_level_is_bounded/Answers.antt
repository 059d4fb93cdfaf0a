use Rattle.limit_betting.proofs.Bounded.{full-bound, level-bound, put-bound, raises-bound, wagers-bound}
use Rattle.limit_betting.proofs.laws.the_level_is_bounded.Goals as goal

pub returns-clause-level : goal.returns-clause-level
returns-clause-level c = level-bound

pub returns-clause-put : goal.returns-clause-put
returns-clause-put c = put-bound

pub returns-clause-wagers : goal.returns-clause-wagers
returns-clause-wagers c = wagers-bound

pub returns-clause-full : goal.returns-clause-full
returns-clause-full c = full-bound

pub returns-clause-raises : goal.returns-clause-raises
returns-clause-raises c = raises-bound
