use Rattle.pot_layers.proofs.DeadChips.{own-pot}
use Rattle.pot_layers.proofs.laws.what_nobody_reached_comes_back.Goals as goal

pub returns : goal.returns
returns c = own-pot
