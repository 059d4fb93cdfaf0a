use Rattle.tournament_rules.specs.States.{first_state, run}
use Rattle.tournament_laws.proofs.RoundLaws.{begins-once, begins-none}
use Rattle.tournament_rules.proofs.Steps.{valid_events}
use Rattle.tournament_laws.proofs.tables.a_table_begins_once_in_a_round.Goals as goal

pub returns-clause-once : goal.returns-clause-once
returns-clause-once c = λ before between table row other play is.
    begins-once (run first_state before) between play table row other is ((valid_events before).play play is)

pub returns-clause-playing : goal.returns-clause-playing
returns-clause-playing c = λ before between table row play is.
    begins-none (run first_state before) between play table row is
