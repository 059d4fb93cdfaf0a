use Rattle.place_list.proofs.Ranks.{place_of-next}
use Rattle.place_list.proofs.laws.the_next_place_counts_those_who_tie.Goals as goal

pub returns : goal.returns
returns c = place_of-next
