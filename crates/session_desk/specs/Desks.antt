-- A desk: its passes, what they have seen, and what they made. This project's own.
use Rattle.std.specs.Prelude.{◌≡◌, ◌≢◌, ◌==◌, ℕ, List, [], ◌++◌, filter, length, map, slice_get, Option, Some, None, IfSome, zero, suc}
use Rattle.std.specs.Option.{option_map_or}
use mathlib.Core.List.{IsPrefix}
use Rattle.view_rules.specs.declared.entries.JournalEntry.{JournalEntry}
use Rattle.view_rules.specs.declared.entries.TableEntry.{TableEntry}
use Rattle.view_rules.specs.declared.entries.TableEntry.TheVariants.{Acted}
use Rattle.history_lock.specs.Passes.{lock_of, pass_number, seen}
use Rattle.table_dock.specs.declared.dock.TableDock.{TableDock}
use Rattle.table_dock.specs.Docks.{dock_id, table_of}
use Rattle.book_dock.specs.declared.dock.BookDock.{BookDock}
use Rattle.book_dock.specs.Docks.{book_id}
use Rattle.session_desk.specs.declared.desk.Asked.{Asked}
use Rattle.session_desk.specs.declared.desk.Desk.{Desk}
use Rattle.session_desk.specs.Moves.{HasMoved}

-- the item of a row that stands for a table, by its number: the first is for table 1
abbrev pub of_table : {A : Type 0} → List A → ℕ → Option A
of_table items zero = None
of_table items (suc index) = slice_get items index

-- the docks are those of the tables 1, 2 and so on, in this order
abbrev pub AreInOrder : List TableDock → Type 0
AreInOrder docks = (table : ℕ) (dock : TableDock) → of_table docks table ≡ Some dock → table_of dock ≡ table

-- a desk's passes of tables are those of docks, each of the one of its table
abbrev pub ArePassesOf : List TableDock → Desk → Type 0
ArePassesOf docks desk =
    (table : ℕ) (dock : TableDock) → of_table docks table ≡ Some dock
    → IfSome (of_table desk.tables.items table) (λ pass. lock_of pass ≡ dock_id dock)

-- A desk's passes are those of this book and of these docks.
pub record IsDeskOf (book : BookDock) (docks : List TableDock) (desk : Desk) : Type 0 where
  pub book_pass : lock_of desk.book ≡ book_id book
  pub count : length desk.tables.items ≡ length docks
  pub passes : ArePassesOf docks desk

-- What a desk has seen: the journal, and the history of each table by its number.
pub record Sights : Type 0 where
  pub journal : List JournalEntry
  pub tables : ℕ → List TableEntry

-- What a desk's passes have seen.
abbrev pub sights : Desk → Sights
sights desk = record {
  journal = seen desk.book;
  tables = λ table. option_map_or seen (of_table desk.tables.items table) [];
}

-- The numbers of a desk's passes: that of its pass of the book, and that of its pass of each table.
pub record Numbers : Type 0 where
  pub book : ℕ
  pub tables : ℕ → ℕ

-- The numbers of a desk's passes.
abbrev pub numbers_of : Desk → Numbers
numbers_of desk = record {
  book = pass_number desk.book;
  tables = λ table. option_map_or pass_number (of_table desk.tables.items table) 0;
}

-- Later sights begin with the earlier ones.
pub record AreLater (before after : Sights) : Type 0 where
  pub journal : IsPrefix before.journal after.journal
  pub tables : (table : ℕ) → IsPrefix (before.tables table) (after.tables table)

-- What a line brought: the acts and called times that were accepted, and the entries of the journal.
pub record Brought : Type 0 where
  pub acts : List Asked
  pub orders : List JournalEntry

-- nothing was brought
abbrev pub nothing : Brought
nothing = record { acts = []; orders = [] }

-- the entries that acts are in the history of a table, by a caller's number
abbrev pub acted_at : ℕ → ℕ → List Asked → List TableEntry
acted_at caller table acts =
    map (λ (asked : Asked). Acted caller asked.act) (filter (λ (asked : Asked). asked.table == table) acts)

-- A desk moved on: its pass of the book made so many holds at least and brought these entries, its pass of each table
-- so many and the acts at that table, and the acts are listed.
pub record HasDeskMoved (looks : ℕ) (table_looks : ℕ → ℕ) (brought : Brought) (before after : Desk) : Type 0 where
  pub book : HasMoved looks brought.orders before.book after.book
  pub count : length after.tables.items ≡ length before.tables.items
  pub tables : (table : ℕ) → IfSome (of_table before.tables.items table)
      (λ one. IfSome (of_table after.tables.items table)
      (λ other. HasMoved (table_looks table) (acted_at (pass_number one) table brought.acts) one other))
  pub asked : after.asked.items ≡ before.asked.items ++ brought.acts

-- A desk is as it was but for its pass of one table.
pub record IsSameBut (table : ℕ) (before after : Desk) : Type 0 where
  pub book : after.book ≡ before.book
  pub others : (other : ℕ) → other ≢ table
      → of_table after.tables.items other ≡ of_table before.tables.items other
