use Rattle.pot_layers.proofs.DeadChips.{total_of-layers}
use Rattle.pot_layers.proofs.laws.pots_sum_to_all_put.Goals as goal

pub returns : goal.returns
returns c = total_of-layers
