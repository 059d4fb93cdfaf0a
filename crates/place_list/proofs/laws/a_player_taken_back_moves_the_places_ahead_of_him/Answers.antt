use Rattle.place_list.proofs.TakenBack.{place_of-taken}
use Rattle.place_list.proofs.laws.a_player_taken_back_moves_the_places_ahead_of_him.Goals as goal

pub returns : goal.returns
returns c = place_of-taken
