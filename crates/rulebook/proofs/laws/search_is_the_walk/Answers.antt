use Rattle.rulebook.proofs.Searches.{search-walk}
use Rattle.rulebook.proofs.laws.search_is_the_walk.Goals as goal

pub returns : goal.returns
returns g c = λ seat_of wanted people seats seat low rising sit. search-walk seat_of wanted people seats seat low rising
    sit
