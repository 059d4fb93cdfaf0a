-- Entries of a journal that begin a hand or settle one.
use Rattle.std.proofs.Common.{◌≡◌, ◌∙◌, refl, ap, ◌==◌, ℕ, Bool, true, false, cond, List, [], ◌∷◌, ◌++◌}
use Rattle.std.specs.Prelude.{◌||◌, filter}
use Rattle.std.specs.List.{list_any}
use Rattle.std.proofs.lemmas.Bool.{or_left, or_parts, or_right}
use Rattle.std.proofs.lemmas.List.Elements.{filter-append}
use Rattle.std.proofs.lemmas.List.Folds.{list_any-append}
use Rattle.tournament_events.specs.declared.event.Event.{Event}
use Rattle.tournament_events.specs.declared.event.Event.TheVariants as events
use Rattle.simulation_rules.specs.Runs.{is_settle}
use Rattle.history_lock.specs.Entries.{entries_by}
use Rattle.view_rules.specs.declared.entries.JournalEntry.{JournalEntry}
use Rattle.dock_rules.specs.Journals.{journal_caller}
use Rattle.table_worker.specs.Alone.{is_hand_at}
use Rattle.table_worker.proofs.Splits.{same-number}

-- whether an event begins a hand or settles one, at any table
abbrev pub is_of_hand : Event → Bool
is_of_hand (events.Begin table row) = true
is_of_hand (events.Settle table) = true
is_of_hand event = false

-- whether some entry does
abbrev pub has_hands : List JournalEntry → Bool
has_hands entries = list_any (λ (entry : JournalEntry). is_of_hand entry.event) entries

-- whether some entry is a settle
abbrev pub settles : List JournalEntry → Bool
settles entries = list_any (λ (entry : JournalEntry). is_settle entry.event) entries

-- What begins or settles a hand at a table does so.
pub of-table : (table : ℕ) (event : Event) → is_hand_at table event ≡ true → is_of_hand event ≡ true
of-table table (events.Begin other row) is = refl
of-table table (events.Settle other) is = refl
of-table table event is = absurd cc

settle-none : (event : Event) → is_of_hand event ≡ false → is_settle event ≡ false
settle-none (events.Settle table) none = absurd cc
settle-none event none = refl

-- Where no entry begins or settles a hand, none is a settle.
pub settles-none : (entries : List JournalEntry) → has_hands entries ≡ false → settles entries ≡ false
settles-none [] none = refl
settles-none (entry ∷ entries) none =
    let parts = or_parts (is_of_hand entry.event) (has_hands entries) none in
    ap (λ (is : Bool). is || settles entries) (settle-none entry.event parts.0) ∙ settles-none entries parts.1

-- Where an entry does, some entry does.
pub has-there : (front back : List JournalEntry) (entry : JournalEntry) → is_of_hand entry.event ≡ true
    → has_hands (front ++ entry ∷ back) ≡ true
has-there front back entry is =
    list_any-append (λ (entry : JournalEntry). is_of_hand entry.event) front (entry ∷ back)
    ∙ or_right (has_hands front) (is_of_hand entry.event || has_hands back)
    (or_left (is_of_hand entry.event) (has_hands back) is)

-- And some entry of its caller does.
pub has-own : (front back : List JournalEntry) (entry : JournalEntry) → is_of_hand entry.event ≡ true
    → has_hands (entries_by journal_caller entry.caller (front ++ entry ∷ back)) ≡ true
has-own front back entry is =
    let test : JournalEntry → Bool = λ (other : JournalEntry). journal_caller other == entry.caller in
    let mine : (entry.caller == entry.caller) ≡ true = same-number entry.caller entry.caller refl in
    ap has_hands
    (filter-append test front (entry ∷ back)
    ∙ ap (λ (here : Bool). filter test front ++ cond here (entry ∷ filter test back) (filter test back)) mine)
    ∙ has-there (filter test front) (filter test back) entry is
