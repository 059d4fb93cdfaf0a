use Rattle.tournament_rules.proofs.Steps.{valid_events}
use Rattle.tournament_laws.proofs.players.no_two_entered_under_one_name.Goals as goal

pub returns : goal.returns
returns c = λ events play is. ((valid_events events).play play is).book.entries.names
