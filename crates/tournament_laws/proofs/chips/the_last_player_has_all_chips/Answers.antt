use Rattle.tournament_rules.proofs.Steps.{valid_events}
use Rattle.tournament_laws.proofs.TheLast.{last_has_all}
use Rattle.tournament_laws.proofs.chips.the_last_player_has_all_chips.Goals as goal

pub returns : goal.returns
returns c = λ events play is. last_has_all play.book ((valid_events events).play play is).book
