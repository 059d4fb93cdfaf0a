-- The line of the fixed limit is given, where there is one.
use Rattle.plan_files.specs.Steps.{after_limit}
use Rattle.plan_files.proofs.plan_file.give_limit.Goals as goal

pub returns-in-Some-clause-given : goal.returns-in-Some-clause-given
unfolding after_limit
returns-in-Some-clause-given c = rw c.in-Some.is c.give.ensures.given

pub returns-in-Some-clause-wrong : goal.returns-in-Some-clause-wrong
unfolding after_limit
returns-in-Some-clause-wrong c = rw c.in-Some.is c.give.ensures.wrong

pub returns-in-None-clause-given : goal.returns-in-None-clause-given
unfolding after_limit
returns-in-None-clause-given c = rw c.in-None.is
