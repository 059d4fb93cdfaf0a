-- Hands that one caller alone begins and settles at a table. This project's own.
use Rattle.std.specs.Prelude.{◌≡◌, ◌==◌, ℕ, Bool, true, false, List, ◌∷◌, ◌++◌}
use Rattle.tournament_events.specs.declared.event.Event.{Event}
use Rattle.tournament_events.specs.declared.event.Event.TheVariants as events
use Rattle.view_rules.specs.declared.entries.JournalEntry.{JournalEntry}

-- whether an event begins or settles a hand at this table
abbrev pub is_hand_at : ℕ → Event → Bool
is_hand_at table (events.Begin other row) = other == table
is_hand_at table (events.Settle other) = other == table
is_hand_at table event = false

-- Each entry of a journal that begins or settles a hand at a table is this caller's.
abbrev pub IsAlone : ℕ → ℕ → List JournalEntry → Type 0
IsAlone caller table journal =
    (front back : List JournalEntry) (entry : JournalEntry) → journal ≡ front ++ entry ∷ back
    → is_hand_at table entry.event ≡ true → entry.caller ≡ caller
