-- The parts of the tables and of the floor in what is told of the whole.
use Rattle.std.proofs.Common.{◌≡◌, ◌∙◌, sym, ap, ℕ, inl, inr, List, [], ◌∷◌, ◌++◌, map, append-nil}
use Rattle.std.proofs.lemmas.Grind.{flat_map-append}
use Rattle.std.specs.List.{flat_map}
use mathlib.Core.List.{IsPrefix}
use Rattle.table_engine.specs.declared.start.HandStart.{HandStart}
use Rattle.table_engine.specs.Hands.{HandTerms}
use Rattle.tournament_rules.specs.States.{first_state}
use Rattle.view_rules.specs.declared.entries.JournalEntry.{JournalEntry}
use Rattle.view_rules.specs.declared.entries.TableEntry.{TableEntry}
use Rattle.view_rules.specs.declared.entries.TableEntry.TheVariants.{Opened}
use Rattle.view_rules.specs.Entries.{begun, entry_lines, journal_lines}
use Rattle.view_rules.specs.Shown.{Viewer}
use Rattle.view_rules.specs.Spelling.{ViewLine}
use Rattle.view_rules.specs.Views.{lines_seen_by}
use Rattle.dock_rules.specs.Journals.{first_tale, tale_of}
use Rattle.dock_rules.specs.Tables.{entries_lines}
use Rattle.dock_rules.specs.Whole.{DoMatch, TableHands, begun_at, hands_of, hands_played, whole}
use Rattle.dock_rules.proofs.JournalTales.{tale_from}
use Rattle.whole_laws.proofs.InTurn.{starts_of}
use Rattle.listening_laws.specs.Parts.{AreAllOpened, IsLastToOpen, is_of_floor, is_of_table, part_of_floor, part_of_table}
use Rattle.session_desk.specs.Telling.{first_teller}
use Rattle.listening_laws.proofs.FloorAlong.{floor-entry, lines_again}
use Rattle.listening_laws.proofs.TableAlong.{adds-entry, hands_from-all, lines_begun}
use Rattle.listening_laws.proofs.UnderWay.{first-way, lines-along}
use Rattle.listening_laws.proofs.HandLines.{hand_lines, hands_lines, history-lines}

-- The part of a table is the lines of its history, and behind them those of the hands that are to be opened still.
part-told : (who : Viewer) (table : ℕ) (journal : List JournalEntry) (histories : ℕ → List TableEntry)
    (later : List HandStart) → DoMatch journal histories
    → begun_at table (tale_of journal) ≡ starts_of (hands_played (hands_of (histories table))) ++ later
    → part_of_table table (lines_seen_by who (whole journal histories))
    ≡ entries_lines (first_teller who table) (histories table) ++ hands_lines who table (map begun later)
part-told who table journal histories later match is =
    let tables : ℕ → TableHands = λ number. hands_of (histories number) in
    let played : List HandTerms = hands_played (tables table) in
    lines-along tables who (is_of_table table) (λ tale. lines_begun tables who table (begun_at table tale))
    (adds-entry tables who table) first_tale first_state journal (first-way journal histories match)
    ∙ (ap (λ (starts : List HandStart). lines_begun tables who table starts)
    (ap (begun_at table) (sym (tale_from journal)) ∙ is)
    ∙ (ap (hands_lines who table) (hands_from-all played later)
    ∙ (flat_map-append (hand_lines who table) played (map begun later)
    ∙ ap (λ (lines : List ViewLine). lines ++ hands_lines who table (map begun later))
    (sym (history-lines who table (histories table) (match.tables_legal table))))))

-- It is the lines of the history where each hand that began was opened.
pub part-all : (who : Viewer) (table : ℕ) (journal : List JournalEntry) (histories : ℕ → List TableEntry)
    → DoMatch journal histories → AreAllOpened table journal (histories table)
    → part_of_table table (lines_seen_by who (whole journal histories))
    ≡ entries_lines (first_teller who table) (histories table)
part-all who table journal histories match all =
    part-told who table journal histories [] match
    (all ∙ sym (append-nil (starts_of (hands_played (hands_of (histories table))))))
    ∙ append-nil (entries_lines (first_teller who table) (histories table))

-- Where the last was not, its opening comes behind.
pub part-but_last : (who : Viewer) (table : ℕ) (journal : List JournalEntry) (histories : ℕ → List TableEntry)
    (last : HandStart) → DoMatch journal histories → IsLastToOpen table journal (histories table) last
    → part_of_table table (lines_seen_by who (whole journal histories))
    ≡ entries_lines (first_teller who table) (histories table) ++ entry_lines (first_teller who table) (Opened last)
part-but_last who table journal histories last match but =
    let opening : List ViewLine = entry_lines (first_teller who table) (Opened last) in
    part-told who table journal histories (last ∷ []) match but
    ∙ ap (λ (lines : List ViewLine). entries_lines (first_teller who table) (histories table) ++ lines)
    (append-nil (opening ++ []) ∙ append-nil opening)

-- It begins with the lines of the history.
pub part-first : (who : Viewer) (table : ℕ) (journal : List JournalEntry) (histories : ℕ → List TableEntry)
    → DoMatch journal histories
    → IsPrefix (entries_lines (first_teller who table) (histories table))
    (part_of_table table (lines_seen_by who (whole journal histories)))
part-first who table journal histories match = elim (match.match_ table).starts [
  | inl all ↦ (
    [],
    append-nil (entries_lines (first_teller who table) (histories table))
        ∙ sym (part-all who table journal histories match all),
  )
  | inr but ↦ (
    entry_lines (first_teller who table) (Opened but.0),
    sym (part-but_last who table journal histories but.0 match but.1),
  )
]

-- The part of the floor is the lines of the journal.
pub part-floor : (who : Viewer) (journal : List JournalEntry) (histories : ℕ → List TableEntry)
    → DoMatch journal histories
    → part_of_floor (lines_seen_by who (whole journal histories)) ≡ flat_map journal_lines journal
part-floor who journal histories match =
    let tables : ℕ → TableHands = λ number. hands_of (histories number) in
    lines-along tables who is_of_floor lines_again (floor-entry tables who) first_tale first_state journal
    (first-way journal histories match)
    ∙ (ap lines_again (sym (tale_from journal)) ∙ ap (flat_map journal_lines) match.journal_legal.told)
