-- Which kind of event is told how. This project's own.
use Rattle.std.specs.Prelude.{◌≡◌, ℕ, Bool, true, false}
use Rattle.card_set.specs.declared.card.CardRow.{CardRow}
use Rattle.tournament_events.specs.declared.event.Event.{Event}
use Rattle.tournament_events.specs.declared.event.Event.TheVariants as events

-- An event is a begin at a table.
abbrev pub IsBeginAt : Event → ℕ → Type 0
IsBeginAt event table = (row : CardRow) × (event ≡ events.Begin table row)

-- An event is a chip race at a table.
abbrev pub IsRaceAt : Event → ℕ → Type 0
IsRaceAt event table = (row : CardRow) × (event ≡ events.Race table row)

-- whether nothing that is found before an event is needed to tell of it
abbrev pub is_told_after : Event → Bool
is_told_after (events.Act table name act) = false
is_told_after (events.Time table) = false
is_told_after (events.Settle table) = false
is_told_after event = true
