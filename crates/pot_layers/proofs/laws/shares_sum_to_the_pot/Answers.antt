use Rattle.pot_layers.proofs.ShareLaws.{sum_below-share_of}
use Rattle.pot_layers.proofs.laws.shares_sum_to_the_pot.Goals as goal

pub returns : goal.returns
returns c = sum_below-share_of
