use Rattle.view_laws.proofs.Agreed.{agreed-answers, agreed-report, agreed-lines}
use Rattle.view_laws.proofs.laws.agreeing_lists_are_told_alike.Goals as goal

pub returns-clause-answers : goal.returns-clause-answers
returns-clause-answers c = agreed-answers

pub returns-clause-report : goal.returns-clause-report
returns-clause-report c = agreed-report

pub returns-clause-lines : goal.returns-clause-lines
returns-clause-lines c = agreed-lines
