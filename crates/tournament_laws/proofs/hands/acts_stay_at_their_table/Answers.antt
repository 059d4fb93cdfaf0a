use Rattle.tournament_laws.proofs.Elsewhere.{act-book, act-elsewhere}
use Rattle.tournament_laws.proofs.hands.acts_stay_at_their_table.Goals as goal

pub returns-clause-book : goal.returns-clause-book
returns-clause-book c = act-book

pub returns-clause-others : goal.returns-clause-others
returns-clause-others c = act-elsewhere
