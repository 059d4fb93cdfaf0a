use Rattle.betting_round.proofs.Turns.{chips-kept}
use Rattle.betting_round.proofs.laws.an_act_keeps_the_chips.Goals as goal

pub returns : goal.returns
returns c = chips-kept
