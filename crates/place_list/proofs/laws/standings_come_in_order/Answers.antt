use Rattle.place_list.proofs.OrderLaw.{pairwise-standings}
use Rattle.place_list.proofs.laws.standings_come_in_order.Goals as goal

pub returns : goal.returns
returns c = pairwise-standings
