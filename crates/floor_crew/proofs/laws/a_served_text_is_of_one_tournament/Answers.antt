use Rattle.floor_crew.proofs.OneText.{one_list}
use Rattle.floor_crew.proofs.laws.a_served_text_is_of_one_tournament.Goals as goal

pub returns : goal.returns
returns c = one_list
