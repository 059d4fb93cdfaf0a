-- What stands between two hands of a table. This project's own.
use Rattle.std.specs.Prelude.{ℕ, Bool, false, ◌==◌}
use Rattle.tournament_events.specs.declared.event.Event.{Event}
use Rattle.tournament_events.specs.declared.event.Event.TheVariants as events

-- whether an event settles the hand of a table
abbrev pub settles_at : ℕ → Event → Bool
settles_at table (events.Settle other) = other == table
settles_at table event = false
