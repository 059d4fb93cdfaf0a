use Rattle.std.proofs.Common.{rules}
use Rattle.hand_rounds.proofs.rounds.set_hands.Goals as goal

pub returns-clause-switched : goal.returns-clause-switched
returns-clause-switched c = search rules
