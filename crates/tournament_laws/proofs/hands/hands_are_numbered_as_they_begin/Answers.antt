use Rattle.tournament_laws.proofs.Counting.{begun-counted, begins-numbered}
use Rattle.tournament_laws.proofs.hands.hands_are_numbered_as_they_begin.Goals as goal

pub returns-clause-begun : goal.returns-clause-begun
returns-clause-begun c = begun-counted

pub returns-clause-number : goal.returns-clause-number
returns-clause-number c = begins-numbered
