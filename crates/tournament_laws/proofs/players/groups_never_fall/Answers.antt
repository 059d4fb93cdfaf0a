use Rattle.tournament_rules.proofs.Steps.{valid_events}
use Rattle.tournament_laws.proofs.players.groups_never_fall.Goals as goal

pub returns : goal.returns
returns c = λ events play is. ((valid_events events).play play is).book.busts.groups
