use Rattle.pot_layers.proofs.DeadChips.{layers-whole}
use Rattle.pot_layers.proofs.laws.pots_are_whole_units.Goals as goal

pub returns : goal.returns
returns c = layers-whole
