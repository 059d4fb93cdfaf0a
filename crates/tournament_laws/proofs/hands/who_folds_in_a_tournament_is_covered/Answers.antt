use Rattle.tournament_laws.proofs.CoveredHands.{big_next, all_covered}
use Rattle.tournament_laws.proofs.hands.who_folds_in_a_tournament_is_covered.Goals as goal

pub returns-clause-next : goal.returns-clause-next
returns-clause-next c = big_next

pub returns-clause-covered : goal.returns-clause-covered
returns-clause-covered c = all_covered
