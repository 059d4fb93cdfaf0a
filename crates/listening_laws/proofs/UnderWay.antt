-- The walk along a journal, with the whole beside it.
use Rattle.std.proofs.Common.{◌≡◌, ◌∙◌, refl, sym, ap, subst, ℕ, Bool, true, inl, inr, List, [], ◌∷◌, ◌++◌, fold, append_assoc, append-nil}
use Rattle.std.specs.Prelude.{filter}
use Rattle.std.proofs.lemmas.List.{append_cancel_left}
use Rattle.std.proofs.lemmas.List.Elements.{filter-append}
use Rattle.table_engine.specs.declared.start.HandStart.{HandStart}
use Rattle.tournament_events.specs.declared.event.Event.{Event}
use Rattle.tournament_rules.specs.States.{State, first_state, run}
use Rattle.tournament_rules.specs.Valid.{IsValidState}
use Rattle.tournament_rules.proofs.Steps.{valid_first_state, valid_run}
use Rattle.view_rules.specs.declared.entries.JournalEntry.{JournalEntry}
use Rattle.view_rules.specs.declared.entries.TableEntry.{TableEntry}
use Rattle.view_rules.specs.Lines.{lines_of_event}
use Rattle.view_rules.specs.Shown.{Viewer}
use Rattle.view_rules.specs.Spelling.{ViewLine}
use Rattle.view_rules.specs.Views.{told_from}
use Rattle.dock_rules.specs.Journals.{Tale, entry_again, events_of, first_tale, may_come, seeded, tale_of, told_one}
use Rattle.dock_rules.specs.Whole.{DoMatch, TableHands, begun_at, hands_of, hands_played, whole_events, whole_from}
use Rattle.dock_rules.proofs.JournalTales.{tale_from}
use Rattle.whole_laws.proofs.EntriesTaken.{first-may}
use Rattle.whole_laws.proofs.Fits.{DoFit}
use Rattle.whole_laws.proofs.InTurn.{starts_of}
use Rattle.whole_laws.proofs.LawfulHands.{played-lawful}
use Rattle.whole_laws.proofs.Steps.{step-whole}
use Rattle.whole_laws.proofs.Turns.{AreInTurn, in_turn-entry, in_turn-first}
use Rattle.whole_laws.proofs.WholeOf.{AreBeside, IsWholeOf}
use Rattle.listening_laws.proofs.HandLines.{behind-both}
use Rattle.listening_laws.proofs.Tellings.{told-append}

-- Entries of a legal journal are still to come behind a tale, and the whole has come to this state.
pub record IsUnderWay (tables : ℕ → TableHands) (tale : Tale) (state : State) (entries : List JournalEntry)
    : Type 0 where
  -- with these entries, the hands of each table fit those of the journal, which is legal
  pub fit : (table : ℕ) → DoFit table (tables table) (fold told_one tale entries)
  pub legal : (fold told_one tale entries).legal ≡ true
  pub told : (fold told_one tale entries).again ≡ tale.again ++ entries
  -- the journal and the whole have come to states that are valid, beside each other
  pub valid : IsValidState tale.state
  pub whole_valid : IsValidState state
  pub turns : AreInTurn tale
  pub beside : AreBeside tables tale state

-- The journal that is made again only grows.
again-ahead : (tale : Tale) (entries : List JournalEntry)
    → (more : List JournalEntry) × ((fold told_one tale entries).again ≡ tale.again ++ more)
again-ahead tale [] = ([], sym (append-nil tale.again))
again-ahead tale (entry ∷ entries) =
    let later = again-ahead (told_one tale entry) entries in
    let first : JournalEntry = entry_again (seeded tale entry) entry in
    (first ∷ later.0, later.1 ∙ append_assoc tale.again (first ∷ []) later.0)

module _ (tables : ℕ → TableHands) (tale : Tale) (state : State) (entry : JournalEntry) (entries : List JournalEntry)
    (way : IsUnderWay tables tale state (entry ∷ entries)) where
  -- The next entry may come.
  pub next-may : may_come (seeded tale entry) entry ≡ true
  next-may = first-may tale entry entries way.legal

  -- It is as it is made again.
  pub next-told : entry_again (seeded tale entry) entry ≡ entry
  next-told =
      let first : JournalEntry = entry_again (seeded tale entry) entry in
      let ahead = again-ahead (told_one tale entry) entries in
      let same : first ∷ ahead.0 ≡ entry ∷ entries = append_cancel_left tale.again (first ∷ ahead.0) (entry ∷ entries)
      (sym (append_assoc tale.again (first ∷ []) ahead.0) ∙ (sym ahead.1 ∙ way.told)) in
      cc

  -- What it is in the whole is accepted there.
  pub next-whole : IsWholeOf tables (told_one tale entry) state (whole_events tables tale entry.event)
  next-whole =
      step-whole tables tale state entry entries way.fit way.valid way.whole_valid way.turns next-may way.beside

  -- Behind it the entries that are left are still to come.
  pub next-way : IsUnderWay tables (told_one tale entry) (run state (whole_events tables tale entry.event)) entries
  next-way = record {
    fit = way.fit;
    legal = way.legal;
    told = way.told ∙ (sym (append_assoc tale.again (entry ∷ []) entries)
        ∙ ap (λ (first : JournalEntry). (tale.again ++ first ∷ []) ++ entries) (sym next-told));
    valid = valid_run tale.state (events_of entry) way.valid;
    whole_valid = valid_run state (whole_events tables tale entry.event) way.whole_valid;
    turns = in_turn-entry tale entry way.valid way.turns next-may;
    beside = next-whole.beside;
  }

-- The hands of a table that matches a journal fit those of the journal.
fit-match : (table : ℕ) (journal : List JournalEntry) (histories : ℕ → List TableEntry) → DoMatch journal histories
    → DoFit table (hands_of (histories table)) (tale_of journal)
fit-match table journal histories match = elim (match.match_ table).starts [
  | inl all ↦ fit [] (all ∙ sym (append-nil (starts_of (hands_played (hands_of (histories table))))))
  | inr but_last ↦ fit (but_last.0 ∷ []) but_last.1
]
  where
    fit : (later : List HandStart)
        → begun_at table (tale_of journal) ≡ starts_of (hands_played (hands_of (histories table))) ++ later
        → DoFit table (hands_of (histories table)) (tale_of journal)
    fit later is = record {
      lawful = played-lawful (histories table) (match.tables_legal table);
      later = later;
      starts = is;
      ended = (match.match_ table).acts;
    }

-- All entries of a journal that matches the histories of all tables are still to come behind none.
pub first-way : (journal : List JournalEntry) (histories : ℕ → List TableEntry) → DoMatch journal histories
    → IsUnderWay (λ table. hands_of (histories table)) first_tale first_state journal
first-way journal histories match =
    let from = tale_from journal in
    record {
      fit = λ table. subst (DoFit table (hands_of (histories table))) from (fit-match table journal histories match);
      legal = ap (λ (tale : Tale). tale.legal) (sym from) ∙ match.journal_legal.allowed;
      told = ap (λ (tale : Tale). tale.again) (sym from) ∙ match.journal_legal.told;
      valid = valid_first_state;
      whole_valid = valid_first_state;
      turns = in_turn-first;
      beside = inl (record { none = refl; same = refl });
    }

-- Where each entry in the whole adds, of those lines that pass a test, what the tale grows by, all of them add that.
module _ (tables : ℕ → TableHands) (who : Viewer) (test : ViewLine → Bool) (so_far : Tale → List ViewLine)
    (adds : (tale : Tale) (state : State) (entry : JournalEntry) (entries : List JournalEntry)
    → IsUnderWay tables tale state (entry ∷ entries)
    → so_far tale ++ filter test (told_from lines_of_event who state (whole_events tables tale entry.event))
    ≡ so_far (told_one tale entry)) where
  pub lines-along : (tale : Tale) (state : State) (entries : List JournalEntry) → IsUnderWay tables tale state entries
      → so_far tale ++ filter test (told_from lines_of_event who state (whole_from tables tale entries))
      ≡ so_far (fold told_one tale entries)
  lines-along tale state [] way = append-nil (so_far tale)
  lines-along tale state (entry ∷ entries) way =
      let here : List Event = whole_events tables tale entry.event in
      let rest : List Event = whole_from tables (told_one tale entry) entries in
      let first : List ViewLine = told_from lines_of_event who state here in
      let later : List ViewLine = told_from lines_of_event who (run state here) rest in
      ap (λ (lines : List ViewLine). so_far tale ++ lines)
      (ap (filter test) (told-append who state here rest) ∙ filter-append test first later)
      ∙ behind-both (so_far tale) (filter test first) (filter test later) (so_far (told_one tale entry))
      (so_far (fold told_one tale (entry ∷ entries))) (adds tale state entry entries way)
      (lines-along (told_one tale entry) (run state here) entries (next-way tables tale state entry entries way))
