-- The whole of a journal and its tables' histories is accepted, and comes to the journal's book.
use Rattle.std.proofs.Common.{◌≡◌, ◌∙◌, refl, sym, ap, subst, ℕ, inl, inr, true, List, [], ◌∷◌, fold}
use Rattle.std.specs.Prelude.{Option}
use Rattle.std.specs.Option.{option_map_or}
use Rattle.std.proofs.lemmas.Bool.{and_from}
use Rattle.tournament_events.specs.declared.event.Event.{Event}
use Rattle.tournament_events.specs.declared.report.Report.{Report}
use Rattle.tournament_rules.specs.Report.{book_report, empty_report, report_of}
use Rattle.tournament_rules.specs.States.{PlayState, State, first_state, run}
use Rattle.tournament_rules.specs.Valid.{IsValidState}
use Rattle.tournament_rules.proofs.Steps.{valid_first_state, valid_run}
use Rattle.view_rules.specs.declared.entries.JournalEntry.{JournalEntry}
use Rattle.dock_rules.specs.Journals.{Tale, events_of, first_tale, told_one}
use Rattle.dock_rules.specs.Whole.{TableHands, whole_events, whole_from}
use Rattle.dock_rules.proofs.JournalTales.{accepted-append, run-append}
use Rattle.whole_laws.proofs.EntriesTaken.{first-may}
use Rattle.whole_laws.proofs.Steps.{step-whole}
use Rattle.whole_laws.proofs.WholeOf.{AreBeside, IsWholeOf}
use Rattle.whole_laws.proofs.Fits.{DoFit}
use Rattle.whole_laws.proofs.Turns.{AreInTurn, in_turn-entry, in_turn-first}

-- All entries that are still to come, in the whole.
whole-runs : (tables : ℕ → TableHands) (tale : Tale) (state : State) (entries : List JournalEntry)
    → ((table : ℕ) → DoFit table (tables table) (fold told_one tale entries))
    → (fold told_one tale entries).legal ≡ true → IsValidState tale.state → IsValidState state → AreInTurn tale
    → AreBeside tables tale state
    → IsWholeOf tables (fold told_one tale entries) state (whole_from tables tale entries)
whole-runs tables tale state [] fit legal valid valid_too turns beside = record { accepted = refl; beside = beside }
whole-runs tables tale state (entry ∷ entries) fit legal valid valid_too turns beside =
    let may = first-may tale entry entries legal in
    let here : List Event = whole_events tables tale entry.event in
    let rest : List Event = whole_from tables (told_one tale entry) entries in
    let step = step-whole tables tale state entry entries fit valid valid_too turns may beside in
    let later = whole-runs tables (told_one tale entry) (run state here) entries fit legal
    (valid_run tale.state (events_of entry) valid) (valid_run state here valid_too)
    (in_turn-entry tale entry valid turns may) step.beside in
    record {
      accepted = accepted-append state here rest ∙ and_from _ _ step.accepted later.accepted;
      beside = subst (AreBeside tables (fold told_one (told_one tale entry) entries))
          (sym (run-append state here rest)) later.beside;
    }

-- The whole of all entries.
pub whole-first : (tables : ℕ → TableHands) (entries : List JournalEntry)
    → ((table : ℕ) → DoFit table (tables table) (fold told_one first_tale entries))
    → (fold told_one first_tale entries).legal ≡ true
    → IsWholeOf tables (fold told_one first_tale entries) first_state (whole_from tables first_tale entries)
whole-first tables entries fit legal =
    whole-runs tables first_tale first_state entries fit legal valid_first_state valid_first_state in_turn-first
    (inl (record { none = refl; same = refl }))

-- A state beside that of a journal has its report.
pub beside-report : (tables : ℕ → TableHands) (tale : Tale) (state : State) → AreBeside tables tale state
    → report_of state ≡ report_of tale.state
beside-report tables tale state beside = elim beside [
  | inl planning ↦ ap report_of planning.same
  | inr playing ↦
      let read : Option PlayState → Report =
      λ found. option_map_or (λ play. book_report play.book) found empty_report in
      ap read playing.whole_is ∙ (ap book_report playing.beside.book ∙ sym (ap read playing.told_is))
]
