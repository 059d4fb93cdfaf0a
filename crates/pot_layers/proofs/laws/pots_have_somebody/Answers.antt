use Rattle.pot_layers.proofs.DeadChips.{layers-somebody}
use Rattle.pot_layers.proofs.laws.pots_have_somebody.Goals as goal

pub returns : goal.returns
returns c = layers-somebody
