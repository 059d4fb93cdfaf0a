use Rattle.view_laws.proofs.OwnLines.{seen-open}
use Rattle.view_laws.proofs.laws.a_player_is_told_what_all_are_told.Goals as goal

pub returns : goal.returns
returns c = seen-open
