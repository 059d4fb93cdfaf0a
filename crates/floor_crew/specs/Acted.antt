-- The acts in the history of a table. This project's own.
use Rattle.std.specs.Prelude.{ℕ, List, Option, Some, None}
use Rattle.std.specs.List.{filter_map}
use Rattle.tournament_events.specs.declared.event.Event.{Event}
use Rattle.view_rules.specs.declared.entries.TableEntry.{TableEntry}
use Rattle.view_rules.specs.declared.entries.TableEntry.TheVariants.{Acted}
use Rattle.dock_rules.specs.Journals.{act_event}

-- an entry of a table's history as an event, where it is an act or a called time
abbrev pub event_acted : ℕ → TableEntry → Option Event
event_acted table (Acted caller act) = Some (act_event table act)
event_acted table entry = None

-- The acts and the called times that were accepted at a table, in order, as events.
abbrev pub events_acted : ℕ → List TableEntry → List Event
events_acted table history = filter_map (event_acted table) history
