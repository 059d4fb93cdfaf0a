-- The names of those who enter. This project's own.
use Rattle.tournament_events.specs.declared.event.Event.{Event}
use Rattle.tournament_events.specs.declared.event.Event.TheVariants as events
use Rattle.line_words.specs.Fields.{IsLineName}

-- Whoever enters by an event has a name that a line may hold.
abbrev pub EntersByName : Event → Type 0
EntersByName (events.Enter name table seat) = IsLineName name
EntersByName event = Unit {0}
