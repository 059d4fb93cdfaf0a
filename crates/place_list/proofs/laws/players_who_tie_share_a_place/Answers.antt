use Rattle.place_list.proofs.Ranks.{place_of-ties}
use Rattle.place_list.proofs.laws.players_who_tie_share_a_place.Goals as goal

pub returns : goal.returns
returns c = place_of-ties
