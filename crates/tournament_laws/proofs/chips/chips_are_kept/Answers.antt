use Rattle.tournament_rules.specs.States.{first_state, run}
use Rattle.tournament_laws.proofs.Holds.{chips_kept}
use Rattle.tournament_rules.proofs.Steps.{valid_events}
use Rattle.tournament_laws.proofs.chips.chips_are_kept.Goals as goal

pub returns : goal.returns
returns c = λ events. chips_kept (run first_state events).play (valid_events events).play
