-- What the locks of a floor come to once they are opened. This project's own.
use Rattle.std.specs.Prelude.{◌≡◌, ◌<◌, ℕ, List, [], All, Any, IfSome, None}
use Rattle.history_lock.specs.Entries.{IsGrownByPasses, entries_by}
use Rattle.history_lock.specs.Passes.{own, pass_number}
use Rattle.view_rules.specs.declared.entries.JournalEntry.{JournalEntry}
use Rattle.view_rules.specs.declared.entries.TableEntry.{TableEntry}
use Rattle.dock_rules.specs.Journals.{IsLegalJournal, journal_caller}
use Rattle.dock_rules.specs.Tables.{IsLegalTableHistory, table_caller}
use Rattle.book_dock.specs.Docks.{book_opening, book_passes}
use Rattle.session_desk.specs.Desks.{of_table}
use Rattle.floor_crew.specs.declared.floor.Floor.{Floor}
use Rattle.floor_crew.specs.declared.passes.Passes.{Passes}
use Rattle.floor_crew.specs.AtHand.{AreMakers, AreSeen}

-- The locks of a floor were opened with these passes, and this is the journal: it is legal, and is the opening with
-- entries of the passes alone behind it, each with those that it made. The histories of the tables are legal as well,
-- and were made by the passes of their docks, and where no table is there is none; and all of them begin with what the
-- passes have seen.
pub record HasClosed (floor : Floor) (passes : Passes) (journal : List JournalEntry) : Type 0 where
  pub legal : IsLegalJournal journal
  pub grown : IsGrownByPasses journal_caller (book_passes floor.book) (book_opening floor.book) journal
  pub own : All (λ pass. entries_by journal_caller (pass_number pass) journal ≡ own pass) passes.books.items
  pub numbers : (k : ℕ) → k < book_passes floor.book → Any (λ pass. pass_number pass ≡ k) passes.books.items
  pub histories : ℕ → List TableEntry
  pub tables : (table : ℕ) → IsLegalTableHistory (histories table)
  pub made : (table : ℕ) → IfSome (of_table passes.tables.items table)
      (λ row. AreMakers table_caller row (histories table))
  pub nowhere : (table : ℕ) → of_table passes.tables.items table ≡ None → histories table ≡ []
  pub seen : AreSeen (record { journal = journal; tables = histories }) passes
