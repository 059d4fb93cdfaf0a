use Rattle.tournament_rules.specs.States.{first_state, run}
use Rattle.tournament_rules.proofs.Steps.{valid_events, valid_run}
use Rattle.tournament_laws.proofs.RisingPlaces.{places-rise, places-stay, late-closed}
use Rattle.tournament_laws.proofs.places.places_rise_without_entries.Goals as goal

pub returns-clause-rises : goal.returns-clause-rises
returns-clause-rises c = λ before between bust earlier is out none later after.
    places-rise (run first_state before) between earlier later bust is after
    ((valid_run (run first_state before) between (valid_events before)).play later after) none

pub returns-clause-past : goal.returns-clause-past
returns-clause-past c = λ before between bust earlier is out past none later after.
    places-stay (run first_state before) between earlier later bust is after
    ((valid_run (run first_state before) between (valid_events before)).play later after) past none

pub returns-clause-closed : goal.returns-clause-closed
returns-clause-closed c = λ before between earlier is late.
    late-closed (run first_state before) between earlier is late
