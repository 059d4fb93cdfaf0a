use Rattle.betting_round.proofs.Turns.{accepted-covered, accepted-due}
use Rattle.betting_round.proofs.laws.an_act_is_in_turn_and_covered.Goals as goal

pub returns-clause-turn : goal.returns-clause-turn
returns-clause-turn c = accepted-due

pub returns-clause-covered : goal.returns-clause-covered
returns-clause-covered c = accepted-covered
