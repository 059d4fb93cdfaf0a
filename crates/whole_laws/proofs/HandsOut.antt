-- The hands that a journal has out are those that its book has started.
use Rattle.std.proofs.Common.{◌≡◌, ◌∙◌, refl, sym, ap, ℕ, ◌==◌, Bool, true, false, cond, List, [], ◌∷◌, ◌++◌, append_assoc, append-nil, fold}
use Rattle.std.specs.Prelude.{◌||◌, if◌then◌else◌}
use Rattle.std.specs.List.{flat_map, list_any}
use Rattle.std.proofs.lemmas.Bool.{eqb-true}
use Rattle.std.proofs.lemmas.List.Elements.{filter-append}
use Rattle.level_plan.specs.Drafts.{empty_draft, plan_of}
use Rattle.table_engine.specs.declared.start.HandStart.{HandStart}
use Rattle.tournament_events.specs.declared.event.Event.{Event}
use Rattle.tournament_events.specs.declared.event.Event.TheVariants as events
use Rattle.tournament_rules.specs.Dealing.{next_start}
use Rattle.tournament_rules.specs.Valid.{IsValidState}
use Rattle.tournament_rules.proofs.Steps.{valid_first_state, valid_run}
use Rattle.view_rules.specs.declared.entries.JournalEntry.{JournalEntry}
use Rattle.dock_rules.specs.Journals.{Begun, Tale, begun_by, book_of, ends_hand, events_of, first_tale, hands_out, kept_out, left_out, seeded, tale_of, told_one}
use Rattle.dock_rules.proofs.JournalTales.{legal-before, tale_from}
use Rattle.whole_laws.proofs.InSlots.{AreInSlots}
use Rattle.whole_laws.proofs.StartSteps.{none_first, out_at, starts_by, those_at}
use Rattle.whole_laws.proofs.EntrySteps.{legal-step}

-- whether some entry ends the hand at a table
abbrev pub end_hand : ℕ → List JournalEntry → Bool
end_hand table entries = list_any (λ entry. ends_hand table entry.event) entries

none_either : (ended : Bool) → ◌≡◌ {A = List HandStart} (if ended then [] else []) []
none_either true = refl
none_either false = refl

module _ (table : ℕ) where
  -- The hand that begins is among those at the table where it is of that table, and is kept out unless it is ended.
  kept-one : (rest : List JournalEntry) (one : Begun)
      → those_at table (kept_out rest one) ≡ (if end_hand table rest then [] else those_at table (one.start ∷ []))
  kept-one rest one =
      by_ends (end_hand one.start.table rest)
      ∙ by_table (one.start.table == table) refl (end_hand one.start.table rest) (end_hand table rest)
      (λ same. ap (λ (number : ℕ). end_hand number rest) (eqb-true one.start.table table same))
    where
      by_ends : (ended : Bool)
          → those_at table (if ended then [] else one.start ∷ [])
          ≡ (if ended then [] else those_at table (one.start ∷ []))
      by_ends true = refl
      by_ends false = refl

      by_table : (here : Bool) → (one.start.table == table) ≡ here → (his ended : Bool)
          → ((one.start.table == table) ≡ true → his ≡ ended)
          → (if his then [] else cond here (one.start ∷ []) [])
          ≡ (if ended then [] else cond here (one.start ∷ []) [])
      by_table true same his ended alike =
          ap (λ (over : Bool). if over then [] else one.start ∷ []) (alike same)
      by_table false apart his ended alike = none_either his ∙ sym (none_either ended)

  -- The same for all hands that an event begins.
  kept-begun : (rest : List JournalEntry) (tale : Tale) (caller : ℕ) (event : Event)
      → those_at table (flat_map (kept_out rest) (begun_by tale caller event))
      ≡ (if end_hand table rest then [] else those_at table (starts_by (book_of tale) event))
  kept-begun rest tale caller (events.Begin at row) =
      let one : Begun = record { by = caller; start = next_start (book_of tale) at row.cards } in
      ap (those_at table) (append-nil (kept_out rest one)) ∙ kept-one rest one
  kept-begun rest tale caller event = sym (none_either (end_hand table rest))

  -- What an entry leaves, and what the entries behind it leave of that.
  joined : (ends ended : Bool) (old new later : List HandStart)
      → (if ended then [] else (if ends then [] else old) ++ new) ++ later
      ≡ (if ends || ended then [] else old) ++ ((if ended then [] else new) ++ later)
  joined true true old new later = refl
  joined true false old new later = refl
  joined false true old new later = refl
  joined false false old new later = append_assoc old new later

  -- The hand at the table once more entries came: the one that was out there before, unless an entry ends it, and then
  -- the one that they leave out.
  pub out-from : (tale : Tale) (entries : List JournalEntry) → IsValidState tale.state
      → (fold told_one tale entries).legal ≡ true
      → out_at (book_of (fold told_one tale entries)) table
      ≡ (if end_hand table entries then [] else out_at (book_of tale) table) ++ those_at table (left_out tale entries)
  out-from tale [] valid legal = sym (append-nil (out_at (book_of tale) table))
  out-from tale (entry ∷ rest) valid legal =
      let next : Tale = told_one tale entry in
      let step = legal-step tale entry valid (legal-before next rest legal) in
      let later = those_at table (left_out next rest) in
      let begun = begun_by (seeded tale entry) entry.caller entry.event in
      let kept : List HandStart = if end_hand table (entry ∷ rest) then [] else out_at (book_of tale) table in
      out-from next rest (valid_run tale.state (events_of entry) valid) legal
      ∙ (ap (λ (here : List HandStart). (if end_hand table rest then [] else here) ++ later) (step.out table)
      ∙ (joined (ends_hand table entry.event) (end_hand table rest) (out_at (book_of tale) table)
      (those_at table (starts_by (book_of tale) entry.event)) later
      ∙ ap (λ (left : List HandStart). kept ++ left)
      (sym (filter-append (λ start. start.table == table) (flat_map (kept_out rest) begun) (left_out next rest)
      ∙ ap (λ (front : List HandStart). front ++ later)
      (kept-begun rest (seeded tale entry) entry.caller entry.event)))))

-- The hands that a legal journal has out stand at their tables in its book.
pub out-in_slots : (journal : List JournalEntry) → (tale_of journal).legal ≡ true
    → AreInSlots (λ start. start.table) (hands_out journal) (book_of (tale_of journal)).started
out-in_slots journal legal =
    let from = tale_from journal in
    record {
      each = λ table. sym (ap (λ (tale : Tale). out_at (book_of tale) table) from
          ∙ (out-from table first_tale journal valid_first_state (sym (ap (λ (tale : Tale). tale.legal) from) ∙ legal)
          ∙ nothing_first table (end_hand table journal)));
    }
  where
    nothing_first : (table : ℕ) (ended : Bool)
        → (if ended then [] else out_at (book_of first_tale) table) ++ those_at table (hands_out journal)
        ≡ those_at table (hands_out journal)
    nothing_first table true = refl
    nothing_first table false =
        ap (λ (starts : List HandStart). starts ++ those_at table (hands_out journal))
        (none_first (plan_of empty_draft) table)
