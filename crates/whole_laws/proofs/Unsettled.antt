-- Entries that settle none at a table leave those that were settled there.
use Rattle.std.proofs.Common.{◌≡◌, ◌∙◌, refl, sym, ap, ℕ, false, List, [], ◌∷◌, ◌++◌, fold, append-nil}
use Rattle.std.specs.Prelude.{◌==◌, Option, Some, None, option_map, option_to_list}
use Rattle.std.specs.List.{list_any}
use Rattle.std.proofs.lemmas.Bool.{or_parts}
use Rattle.table_engine.specs.declared.start.HandStart.{HandStart}
use Rattle.table_engine.specs.Hands.{HandTerms}
use Rattle.tournament_events.specs.declared.event.Event.{Event}
use Rattle.tournament_events.specs.declared.event.Event.TheVariants as events
use Rattle.tournament_rules.specs.Books.{BookState, start_at}
use Rattle.tournament_rules.specs.States.{PlayState}
use Rattle.tournament_rules.specs.Valid.{IsValidState}
use Rattle.tournament_rules.proofs.Steps.{valid_run}
use Rattle.view_rules.specs.declared.entries.JournalEntry.{JournalEntry}
use Rattle.dock_rules.specs.Journals.{Tale, book_of, events_of, seeded, told_one}
use Rattle.dock_rules.specs.Whole.{settled_at}
use Rattle.whole_laws.specs.Between.{settles_at}
use Rattle.whole_laws.proofs.EntriesTaken.{book-told, none-planned}
use Rattle.whole_laws.proofs.AtTables.{hands_at}
use Rattle.whole_laws.proofs.Told.{settled-one, settled-same}

-- The hand that is out at a table is that table's.
out-here : (tale : Tale) (table : ℕ) (start : HandStart) → IsValidState tale.state
    → start_at (book_of tale).started table ≡ Some start → start.table ≡ table
out-here tale table start valid out = by_play tale.state.play refl
  where
    by_play : (found : Option PlayState) → tale.state.play ≡ found → start.table ≡ table
    by_play None none =
        let never : None ≡ Some start = sym (none-planned tale table none) ∙ out in absurd cc
    by_play (Some play) is = ((valid.play play is).book.hands.starts table start
        (ap (λ (book : BookState). start_at book.started table) (sym (book-told tale play is)) ∙ out)).here

-- An entry that settles none at a table leaves those that were settled there.
pub settled-still : (table : ℕ) (tale : Tale) (entry : JournalEntry) → IsValidState tale.state
    → settles_at table entry.event ≡ false → settled_at table (told_one tale entry) ≡ settled_at table tale
settled-still table tale entry valid = by_event entry.event
  where
    by_event : (event : Event) → settles_at table event ≡ false
        → settled_at table (told_one tale (record entry { event = event })) ≡ settled_at table tale
    by_event (events.Settle there) apart = by_start (start_at (book_of tale).started there) refl
      where
        settle : JournalEntry
        settle = record entry { event = events.Settle there }

        by_start : (found : Option HandStart) → start_at (book_of tale).started there ≡ found
            → settled_at table (told_one tale settle) ≡ settled_at table tale
        by_start None none =
            ap (λ (out : Option HandStart). hands_at table (tale.settled
            ++ option_to_list (option_map (λ (hand : HandTerms). record { by = entry.caller; hand = hand })
            (option_map (λ (start : HandStart). record { start = start; acts = entry.acts }) out)))) none
            ∙ ap (hands_at table) (append-nil tale.settled)
        by_start (Some start) out = settled-same table tale settle
            (record { by = entry.caller; hand = record { start = start; acts = entry.acts } })
            (settled-one (seeded tale settle) entry.caller there entry.acts start out)
            (ap (λ (number : ℕ). number == table) (out-here tale there start valid out) ∙ apart)
    by_event event apart = ap (hands_at table) (append-nil tale.settled)

-- So do entries of which each settles none there.
pub settled-through : (table : ℕ) (tale : Tale) (entries : List JournalEntry) → IsValidState tale.state
    → list_any (λ entry. settles_at table entry.event) entries ≡ false
    → settled_at table (fold told_one tale entries) ≡ settled_at table tale
settled-through table tale [] valid none = refl
settled-through table tale (entry ∷ entries) valid none =
    let parts = or_parts (settles_at table entry.event)
    (list_any (λ entry. settles_at table entry.event) entries) none in
    settled-through table (told_one tale entry) entries (valid_run tale.state (events_of entry) valid) parts.1
    ∙ settled-still table tale entry valid parts.0
