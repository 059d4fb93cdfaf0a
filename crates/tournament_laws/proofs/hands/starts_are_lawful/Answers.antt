use Rattle.tournament_laws.proofs.Holds.{start_lawful}
use Rattle.tournament_rules.proofs.Steps.{valid_events}
use Rattle.tournament_rules.specs.States.{first_state, run}
use Rattle.tournament_laws.proofs.hands.starts_are_lawful.Goals as goal

pub returns : goal.returns
returns c = λ events table row play is accepted. start_lawful (run first_state events) play table row is
    ((valid_events events).play play is) accepted
