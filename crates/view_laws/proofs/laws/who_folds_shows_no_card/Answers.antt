use Rattle.view_laws.proofs.Folded.{folded-hidden, folded-left, folded-told}
use Rattle.view_laws.proofs.laws.who_folds_shows_no_card.Goals as goal

pub returns-clause-hand : goal.returns-clause-hand
returns-clause-hand c = folded-hidden

pub returns-clause-events : goal.returns-clause-events
returns-clause-events c = folded-left

pub returns-clause-lines : goal.returns-clause-lines
returns-clause-lines c = folded-told
