use Rattle.place_list.proofs.Ranks.{place_of-ahead}
use Rattle.place_list.proofs.laws.who_is_ahead_is_placed_higher.Goals as goal

pub returns : goal.returns
returns c = place_of-ahead
