use Rattle.view_laws.proofs.Growing.{stays-shown}
use Rattle.view_laws.proofs.laws.what_is_shown_stays_shown.Goals as goal

pub returns : goal.returns
returns c = stays-shown
