use Rattle.pot_layers.proofs.DeadChips.{layers-live}
use Rattle.pot_layers.proofs.laws.pots_are_for_live_players.Goals as goal

pub returns : goal.returns
returns c = layers-live
