-- Once the tournament is stopped a journal has no hand out.
use Rattle.std.proofs.Common.{◌≡◌, ◌∙◌, refl, sym, ap, subst, ℕ, true, List, [], ◌∷◌, fold}
use Rattle.std.specs.Prelude.{Option, Some, None}
use Rattle.std.specs.Option.{option_to_list}
use Rattle.table_engine.specs.declared.start.HandStart.{HandStart}
use Rattle.tournament_events.specs.declared.event.Event.{Event}
use Rattle.tournament_events.specs.declared.event.Event.TheVariants as events
use Rattle.tournament_rules.specs.Books.{BookState, start_at}
use Rattle.tournament_rules.specs.Valid.{IsValidState}
use Rattle.tournament_rules.proofs.Steps.{valid_first_state, valid_run}
use Rattle.view_rules.specs.declared.entries.JournalEntry.{JournalEntry}
use Rattle.dock_rules.specs.Journals.{Tale, book_of, events_of, first_tale, hands_out, is_stop, tale_of, told_one}
use Rattle.dock_rules.proofs.JournalTales.{legal-before, tale_from}
use Rattle.whole_laws.proofs.InSlots.{none_in}
use Rattle.whole_laws.proofs.StartSteps.{IsStep}
use Rattle.whole_laws.proofs.EntrySteps.{legal-step}
use Rattle.whole_laws.proofs.HandsOut.{out-in_slots}

none_listed : (found : Option HandStart) → option_to_list found ≡ [] → found ≡ None
none_listed None none = refl
none_listed (Some start) none = absurd cc

the_stop : (event : Event) → is_stop event ≡ true → event ≡ events.Stop
the_stop events.Stop is = refl
the_stop event is = absurd cc

-- No hand has started in a book that is stopped.
abbrev IsEmptied : BookState → Type 0
IsEmptied book = book.stopped ≡ true → (table : ℕ) → start_at book.started table ≡ None

-- It is so after each entry of a legal journal.
emptied-from : (tale : Tale) (entries : List JournalEntry) → IsValidState tale.state
    → (fold told_one tale entries).legal ≡ true → IsEmptied (book_of tale)
    → IsEmptied (book_of (fold told_one tale entries))
emptied-from tale [] valid legal is = is
emptied-from tale (entry ∷ rest) valid legal is =
    let next : Tale = told_one tale entry in
    let step = legal-step tale entry valid (legal-before next rest legal) in
    emptied-from next rest (valid_run tale.state (events_of entry) valid) legal (λ stopped table.
    none_listed (start_at (book_of next).started table)
    ((subst (λ (event : Event). IsStep (book_of tale) event (book_of next))
    (the_stop entry.event (sym step.stopped ∙ stopped)) step).out table))

-- A legal journal that stopped the tournament has no hand out.
pub none_out : (journal : List JournalEntry) → (tale_of journal).legal ≡ true
    → (book_of (tale_of journal)).stopped ≡ true → hands_out journal ≡ []
none_out journal legal stopped =
    let from = tale_from journal in
    let emptied = emptied-from first_tale journal valid_first_state
    (sym (ap (λ (tale : Tale). tale.legal) from) ∙ legal) (λ never. absurd cc) in
    none_in (λ start. start.table) (hands_out journal) (book_of (tale_of journal)).started (out-in_slots journal legal)
    (subst (λ (tale : Tale). IsEmptied (book_of tale)) (sym from) emptied stopped)
