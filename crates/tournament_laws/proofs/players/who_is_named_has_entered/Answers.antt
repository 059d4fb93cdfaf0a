use Rattle.tournament_rules.specs.States.{first_state, run}
use Rattle.tournament_rules.proofs.Steps.{valid_events}
use Rattle.tournament_laws.proofs.NamedPlayers.{named_known}
use Rattle.tournament_laws.proofs.players.who_is_named_has_entered.Goals as goal

pub returns : goal.returns
returns c = λ events event name. named_known (run first_state events) event name (valid_events events)
