use Rattle.whole_laws.proofs.Stopping.{ended-stopped, none-behind_stop}
use Rattle.whole_laws.proofs.journals.a_journal_ends_with_the_stop.Goals as goal

pub returns-clause-ended : goal.returns-clause-ended
returns-clause-ended c = ended-stopped

pub returns-clause-last : goal.returns-clause-last
returns-clause-last c = none-behind_stop
