-- What a client was told is part of what the whole tells.
use Rattle.std.proofs.Common.{◌∙◌, sym, ap, subst, ℕ, List}
use Rattle.std.specs.List.{flat_map}
use Rattle.std.proofs.lemmas.Grind.{flat_map-append}
use mathlib.Core.List.{IsPrefix}
use Rattle.history_lock.proofs.Prefixes.{prefix_trans}
use Rattle.plan_files.specs.Words.{WordTerms}
use Rattle.view_rules.specs.declared.entries.JournalEntry.{JournalEntry}
use Rattle.view_rules.specs.declared.entries.TableEntry.{TableEntry}
use Rattle.view_rules.specs.Entries.{TableTold, journal_lines}
use Rattle.view_rules.specs.Shown.{Viewer}
use Rattle.view_rules.specs.Spelling.{ViewLine}
use Rattle.view_rules.specs.Views.{lines_seen_by}
use Rattle.dock_rules.specs.Tables.{entries_lines, told_through}
use Rattle.dock_rules.specs.Whole.{DoMatch, whole}
use Rattle.session_desk.specs.Desks.{AreLater, Numbers, Sights}
use Rattle.session_desk.specs.Exchanges.{Exchange}
use Rattle.session_desk.specs.Standings.{standing_through}
use Rattle.session_desk.specs.Talks.{AreMoments, floor_in, lines_of_table, sights_through}
use Rattle.session_desk.specs.Telling.{first_teller, viewer_of}
use Rattle.session_desk.proofs.InOrder.{floor-in-order, tables-in-order}
use Rattle.session_desk.proofs.SoFar.{lines-both}
use Rattle.listening_laws.specs.Parts.{part_of_floor, part_of_table}
use Rattle.listening_laws.proofs.TheParts.{part-first, part-floor}

-- the lines of a front of a history are the first of its lines
front-lines : (who : TableTold) (front history : List TableEntry) → IsPrefix front history
    → IsPrefix (entries_lines who front) (entries_lines who history)
front-lines who front history longer = (
  entries_lines (told_through who front) longer.0,
  sym (lines-both who front longer.0) ∙ ap (entries_lines who) longer.1,
)

-- the floor's lines of a front of a journal are the first of its lines
front-floor : (front journal : List JournalEntry) → IsPrefix front journal
    → IsPrefix (flat_map journal_lines front) (flat_map journal_lines journal)
front-floor front journal longer = (
  flat_map journal_lines longer.0,
  sym (flat_map-append journal_lines front longer.0) ∙ ap (flat_map journal_lines) longer.1,
)

module _ (words : WordTerms) (count : ℕ) (numbers : Numbers) (start : Sights) (log : List Exchange) where
  -- The lines of a table that a client was told are the first of the table's in the whole.
  pub told-tables : (table : ℕ) (journal : List JournalEntry) (histories : ℕ → List TableEntry)
      → AreMoments words count numbers start log
      → AreLater (sights_through start log) (record { journal = journal; tables = histories })
      → DoMatch journal histories
      → IsPrefix (lines_of_table table log)
      (part_of_table table (lines_seen_by (viewer_of (standing_through words count log).speaker)
      (whole journal histories)))
  told-tables table journal histories moments later match =
      let who : Viewer = viewer_of (standing_through words count log).speaker in
      let first = tables-in-order words count numbers start log table moments in
      let part : List ViewLine = part_of_table table (lines_seen_by who (whole journal histories)) in
      let all : List ViewLine = entries_lines (first_teller who table) (histories table) in
      subst (λ (lines : List ViewLine). IsPrefix lines part) (sym first.lines_are)
      (prefix_trans (entries_lines (first_teller who table) first.front) all part
      (front-lines (first_teller who table) first.front (histories table)
      (prefix_trans first.front ((sights_through start log).tables table) (histories table) first.is_front
      (later.tables table)))
      (part-first who table journal histories match))

  -- And so are the floor's.
  pub told-floor : (who : Viewer) (journal : List JournalEntry) (histories : ℕ → List TableEntry)
      → AreMoments words count numbers start log
      → AreLater (sights_through start log) (record { journal = journal; tables = histories })
      → DoMatch journal histories
      → IsPrefix (flat_map journal_lines (floor_in log))
      (part_of_floor (lines_seen_by who (whole journal histories)))
  told-floor who journal histories moments later match =
      subst (λ (lines : List ViewLine). IsPrefix (flat_map journal_lines (floor_in log)) lines)
      (sym (part-floor who journal histories match))
      (front-floor (floor_in log) journal
      (prefix_trans (floor_in log) (sights_through start log).journal journal
      (floor-in-order words count numbers start log moments) later.journal))
