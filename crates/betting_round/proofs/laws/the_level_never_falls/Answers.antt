use Rattle.betting_round.proofs.Turns.{level-grows}
use Rattle.betting_round.proofs.laws.the_level_never_falls.Goals as goal

pub returns : goal.returns
returns c = level-grows
