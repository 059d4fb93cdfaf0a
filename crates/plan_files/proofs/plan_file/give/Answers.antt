-- A line is taken by the draft, or is wrong there.
use Rattle.plan_files.specs.Steps.{after_line}
use Rattle.plan_files.proofs.Wrong.{given_line, wrong_line}
use Rattle.plan_files.proofs.plan_file.give.Goals as goal

pub returns-in-Some-clause-given : goal.returns-in-Some-clause-given
returns-in-Some-clause-given c =
    given_line c.line.result c.args.item c.args.line c.in-Some.line c.args.draft.now c.line.new.self c.in-Some.is
    c.line.ensures.ok c.line.ensures.taken

pub returns-in-Some-clause-wrong : goal.returns-in-Some-clause-wrong
returns-in-Some-clause-wrong c =
    wrong_line c.line.result c.args.item c.args.line c.in-Some.line c.args.draft.now c.in-Some.is c.line.ensures.fault

pub returns-in-None-clause-wrong : goal.returns-in-None-clause-wrong
unfolding after_line
returns-in-None-clause-wrong c = rw c.in-None.is
