use Rattle.view_laws.proofs.OtherDecks.{changed-could, other-answers, other-report, other-lines}
use Rattle.view_laws.proofs.laws.a_card_that_is_not_shown_could_be_any_other.Goals as goal

pub returns-clause-answers : goal.returns-clause-answers
returns-clause-answers c = other-answers

pub returns-clause-report : goal.returns-clause-report
returns-clause-report c = other-report

pub returns-clause-lines : goal.returns-clause-lines
returns-clause-lines c = other-lines

pub returns-clause-changed : goal.returns-clause-changed
returns-clause-changed c = changed-could
