-- Between two hands that begin at a table one is settled there.
use Rattle.std.proofs.Common.{◌≡◌, ◌∙◌, refl, sym, ap, subst, ℕ, true, false, inl, inr, List, [], ◌∷◌, ◌++◌, fold, length, arith}
use Rattle.std.specs.Prelude.{Option, Some, None}
use Rattle.std.specs.List.{list_any}
use Rattle.std.proofs.lemmas.Bool.{and_parts, cases_Bool, eq-eqb}
use Rattle.std.proofs.lemmas.List.{length-append}
use Rattle.std.proofs.lemmas.List.Sums.{fold-append}
use Rattle.card_set.specs.declared.card.CardRow.{CardRow}
use Rattle.tournament_events.specs.declared.event.Event.{Event}
use Rattle.tournament_events.specs.declared.event.Event.TheVariants as events
use Rattle.tournament_rules.specs.Dealing.{next_start}
use Rattle.tournament_rules.specs.Kinds.{is_begin}
use Rattle.tournament_rules.specs.States.{PlayState}
use Rattle.tournament_rules.specs.Valid.{IsValidState}
use Rattle.tournament_rules.proofs.Steps.{valid_events, valid_first_state, valid_run}
use Rattle.view_rules.specs.declared.entries.JournalEntry.{JournalEntry}
use Rattle.dock_rules.specs.Journals.{Begun, Tale, are_accepted, begun_by, book_of, events_of, expand, first_tale, may_come, seeded, tale_of, told_one}
use Rattle.dock_rules.specs.Whole.{begun_at}
use Rattle.dock_rules.proofs.JournalTales.{legal-before, state-told, tale_append, tale_from}
use Rattle.whole_laws.specs.Between.{settles_at}
use Rattle.whole_laws.proofs.EntriesTaken.{book-told, event-taken}
use Rattle.whole_laws.proofs.Planning.{by_plan}
use Rattle.whole_laws.proofs.Unsettled.{settled-still, settled-through}
use Rattle.whole_laws.proofs.Told.{begun-ahead, begun-more}
use Rattle.whole_laws.proofs.Turns.{AreInTurn, IsBare, as_many, bare-taken, in_turn-entry, in_turn-first, in_turn-from}

-- No hand is out at a table where one begins.
bare-begun : (tale : Tale) (entry : JournalEntry) (table : ℕ) (row : CardRow) → IsValidState tale.state
    → entry.event ≡ events.Begin table row → may_come (seeded tale entry) entry ≡ true → IsBare tale table
bare-begun tale entry table row valid is may = by_play tale.state.play refl
  where
    begin : JournalEntry
    begin = record entry { event = events.Begin table row }

    accepted : are_accepted tale.state (events_of begin) ≡ true
    accepted = (and_parts _ _ (ap (λ (event : Event).
        may_come (seeded tale (record entry { event = event })) (record entry { event = event })) (sym is) ∙ may)).0

    by_play : (found : Option PlayState) → tale.state.play ≡ found → IsBare tale table
    by_play None none =
        let never : true ≡ false = by_plan tale.state (λ event acts. is_begin event ≡ false) none (λ line acts. refl)
        (λ acts taken. refl) (events.Begin table row) entry.acts accepted in
        absurd cc
    by_play (Some play) at = bare-taken tale play.book table row entry.acts (book-told tale play at)
        (event-taken tale.state (events.Begin table row) entry.acts play valid at accepted)

-- The state is valid after entries.
valid_told : (tale : Tale) (entries : List JournalEntry) → IsValidState tale.state
    → IsValidState (fold told_one tale entries).state
valid_told tale [] valid = valid
valid_told tale (entry ∷ entries) valid =
    valid_told (told_one tale entry) entries (valid_run tale.state (events_of entry) valid)

-- The hands of a legal journal are in turn.
in_turn-told : (journal : List JournalEntry) → (tale_of journal).legal ≡ true → AreInTurn (tale_of journal)
in_turn-told journal legal =
    let is = tale_from journal in
    subst AreInTurn (sym is)
    (in_turn-from first_tale journal valid_first_state in_turn-first
    (ap (λ (tale : Tale). tale.legal) (sym is) ∙ legal))

-- Between two hands that begin at a table one is settled there.
pub settled-between : (table : ℕ) (row other : CardRow) (before between after : List JournalEntry)
    (one next : JournalEntry) → (tale_of (before ++ one ∷ (between ++ next ∷ after))).legal ≡ true
    → one.event ≡ events.Begin table row → next.event ≡ events.Begin table other
    → list_any (λ entry. settles_at table entry.event) between ≡ true
settled-between table row other before between after one next legal begins begins_next =
    elim (cases_Bool (list_any (λ entry. settles_at table entry.event) between)) [
      | inl settles ↦ settles
      | inr none ↦ absurd (never none)
    ]
  where
    first : Tale
    first = tale_of before

    begun : Tale
    begun = told_one first one

    last : Tale
    last = fold told_one begun between

    after_last : (fold told_one last (next ∷ after)).legal ≡ true
    after_last =
        ap (λ (tale : Tale). tale.legal) (sym (fold-append told_one begun between (next ∷ after)))
        ∙ (ap (λ (tale : Tale). tale.legal) (sym (tale_append before (one ∷ (between ++ next ∷ after)))) ∙ legal)

    legal_next : (told_one last next).legal ≡ true
    legal_next = legal-before (told_one last next) after after_last

    may_next : may_come (seeded last next) next ≡ true
    may_next = (and_parts last.legal (may_come (seeded last next) next) legal_next).1

    legal_last : last.legal ≡ true
    legal_last = (and_parts last.legal (may_come (seeded last next) next) legal_next).0

    parts : (first.legal ≡ true) × (may_come (seeded first one) one ≡ true)
    parts = and_parts first.legal (may_come (seeded first one) one) (legal-before begun between legal_last)

    valid : IsValidState first.state
    valid = subst IsValidState (sym (state-told before)) (valid_events (expand before))

    valid_begun : IsValidState begun.state
    valid_begun = valid_run first.state (events_of one) valid

    turns : AreInTurn first
    turns = in_turn-told before parts.0

    never : list_any (λ entry. settles_at table entry.event) between ≡ false → ⊥
    never none =
        let bare = bare-begun first one table row valid begins parts.1 in
        let bare_last = bare-begun last next table other (valid_told begun between valid_begun) begins_next may_next in
        let new : Begun = record { by = one.caller; start = next_start (book_of first) table row.cards } in
        let brings = ap (λ (event : Event). begun_by (seeded first one) one.caller event) begins in
        let more = ap length (begun-more table first one new brings (eq-eqb table table refl))
        ∙ length-append (begun_at table first) (new.start ∷ []) in
        let ahead = begun-ahead table begun between in
        let grows = ap length ahead.1 ∙ length-append (begun_at table begun) ahead.0 in
        let settled = ap length (settled-through table begun between valid_begun none) in
        let unsettled = ap length (settled-still table first one valid (ap (settles_at table) begins)) in
        let many = as_many first table turns bare in
        let many_last = as_many last table
        (in_turn-from begun between valid_begun (in_turn-entry first one valid turns parts.1) legal_last) bare_last in
        omega (arith, more, grows, settled, unsettled, many, many_last)
