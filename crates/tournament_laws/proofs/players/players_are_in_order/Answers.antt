use Rattle.tournament_rules.specs.States.{first_state, run}
use Rattle.tournament_laws.proofs.Holds.{players_in_order}
use Rattle.tournament_rules.proofs.Steps.{valid_events}
use Rattle.tournament_laws.proofs.players.players_are_in_order.Goals as goal

pub returns : goal.returns
returns c = λ events. players_in_order (run first_state events).play (valid_events events).play
