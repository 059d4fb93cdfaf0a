-- The events of a simulated tournament that are still to come. This project's own.
use Rattle.std.specs.Prelude.{ℕ, List}
use Rattle.tournament_events.specs.declared.event.Event.{Event}
use Rattle.tournament_rules.specs.States.{State}
use Rattle.simulation_rules.specs.declared.place.SimPlace.{SimPlace}
use Rattle.simulation_rules.specs.Effort.{effort}
use Rattle.simulation_rules.specs.Runs.{events_from}

-- The events that are left from a place on: those of as many steps as the tournament may still take.
unfoldable pub events_left : List ℕ → State → SimPlace → List Event
events_left seed state place = events_from seed (effort state place) state place
