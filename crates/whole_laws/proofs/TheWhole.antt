-- The law of the whole.
use Rattle.std.proofs.Common.{◌≡◌, ◌∙◌, sym, ap, subst, ℕ, ◌≤◌, inl, inr, List, [], ◌∷◌, fold, length, append-nil, arith}
use Rattle.std.proofs.lemmas.List.{length-append, length-map}
use Rattle.table_engine.specs.Hands.{HandTerms}
use Rattle.tournament_rules.specs.Report.{report_of}
use Rattle.view_rules.specs.declared.entries.TableEntry.{TableEntry}
use Rattle.dock_rules.specs.Journals.{Tale, first_tale, tale_of, told_one}
use Rattle.dock_rules.specs.Tables.{IsLegalTableHistory}
use Rattle.dock_rules.specs.Whole.{IsMatch, TableHands, TheWholeIsLegal, begun_at, hands_of, hands_played}
use Rattle.dock_rules.proofs.JournalTales.{tale_from}
use Rattle.whole_laws.proofs.LawfulHands.{played-lawful}
use Rattle.whole_laws.proofs.Fits.{DoFit}
use Rattle.whole_laws.proofs.InTurn.{starts_of}
use Rattle.whole_laws.proofs.WholeActs.{whole-acts}
use Rattle.whole_laws.proofs.WholeRuns.{beside-report, whole-first}

-- Hands of a legal history that match a journal fit those of the journal.
fit-match : (table : ℕ) (tale : Tale) (history : List TableEntry) → IsLegalTableHistory history
    → IsMatch table tale (hands_of history) → DoFit table (hands_of history) tale
fit-match table tale history legal match = elim match.starts [
  | inl all ↦ record {
    lawful = played-lawful history legal;
    later = [];
    starts = all ∙ sym (append-nil (starts_of (hands_played (hands_of history))));
    ended = match.acts;
  }
  | inr but_last ↦ record {
    lawful = played-lawful history legal;
    later = but_last.0 ∷ [];
    starts = but_last.1;
    ended = match.acts;
  }
]

-- As many hands began as were opened, or more.
enough : (table : ℕ) (hands : TableHands) (tale : Tale) → DoFit table hands tale
    → length (hands_played hands) ≤ length (begun_at table tale)
enough table hands tale fit =
    let count = ap length fit.starts ∙ length-append (starts_of (hands_played hands)) fit.later in
    let same = length-map (hands_played hands) (λ (hand : HandTerms). hand.start) in
    omega (arith, count, same)

-- It holds.
pub the-whole : TheWholeIsLegal
the-whole journal histories match =
    let tables : ℕ → TableHands = λ table. hands_of (histories table) in
    let end : Tale = fold told_one first_tale journal in
    let is : tale_of journal ≡ end = tale_from journal in
    let legal = ap (λ (tale : Tale). tale.legal) (sym is) ∙ match.journal_legal.allowed in
    let fit : (table : ℕ) → DoFit table (tables table) end =
    λ table. fit-match table end (histories table) (match.tables_legal table)
    (subst (λ (tale : Tale). IsMatch table tale (tables table)) is (match.match_ table)) in
    let runs = whole-first tables journal fit legal in
    record {
      legal = runs.accepted;
      acts = λ table. whole-acts tables table journal legal (enough table (tables table) end (fit table));
      report = beside-report tables end _ runs.beside ∙ ap (λ (tale : Tale). report_of tale.state) (sym is);
    }
