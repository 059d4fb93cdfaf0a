use Rattle.pot_layers.proofs.ShareLaws.{halves-sum}
use Rattle.pot_layers.proofs.laws.halves_sum_to_the_pot.Goals as goal

pub returns : goal.returns
returns c = halves-sum
