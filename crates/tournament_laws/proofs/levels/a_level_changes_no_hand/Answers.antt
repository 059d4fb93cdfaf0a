use Rattle.tournament_laws.proofs.RaceLaws.{level-hands, level-players}
use Rattle.tournament_laws.proofs.levels.a_level_changes_no_hand.Goals as goal

pub returns-clause-hands : goal.returns-clause-hands
returns-clause-hands c = level-hands

pub returns-clause-players : goal.returns-clause-players
returns-clause-players c = level-players
