-- The passes at hand, before they are dealt and once they are collected. This project's own.
use Rattle.std.specs.Prelude.{◌≡◌, ◌+◌, ◌≤◌, ℕ, List, [], All, Any, IfSome, Vec, slice_get, vec_capacity, vec_len}
use Rattle.std.specs.List.{AllZip}
use mathlib.Core.List.{IsPrefix}
use Rattle.history_lock.specs.declared.grows.Grows.{Ghosts}
use Rattle.history_lock.specs.declared.pass.Pass.{Pass}
use Rattle.history_lock.specs.Entries.{entries_by}
use Rattle.history_lock.specs.Passes.{IsFresh, LockId, lock_of, own, pass_number, seen}
use Rattle.table_dock.specs.Docks.{dock_id}
use Rattle.book_dock.specs.Docks.{book_id}
use Rattle.session_desk.specs.Desks.{Sights, of_table}
use Rattle.floor_crew.specs.declared.floor.Floor.{Floor}
use Rattle.floor_crew.specs.declared.floor.Room.{Room}
use Rattle.floor_crew.specs.declared.jobs.Work.{Work}
use Rattle.floor_crew.specs.declared.passes.Pack.{Pack}
use Rattle.floor_crew.specs.declared.passes.Passes.{Passes}
use Rattle.floor_crew.specs.Rows.{IsEmptyFor}

-- A pack of a floor's passes: they have done nothing, and each row has a pass of each dock, with the row's number.
pub record IsPack (floor : Floor) (pack : Pack) : Type 0 where
  pub of_book : All (λ pass. (lock_of pass ≡ book_id floor.book) × (own pass ≡ [])) pack.books.items
  pub of_tables : (number : ℕ) → IfSome (slice_get pack.rows.items number)
      (λ row. AllZip (λ dock pass. IsFresh (dock_id dock) number [] pass) floor.docks.items row.items)

-- There is room for so many passes more of the book, and for so many of each table.
pub record HasRoom (books each : ℕ) (passes : Passes) : Type 0 where
  pub of_book : vec_len passes.books + books ≤ vec_capacity passes.books
  pub of_tables : All (λ row. vec_len row + each ≤ vec_capacity row) passes.tables.items

-- So many passes of a lock.
pub record AreOf {Val E A : Type 0} {g : Ghosts Val E} (lock : LockId) (count : ℕ) (passes : Vec (Pass Val E g) A)
    : Type 0 where
  pub locks : All (λ pass. lock_of pass ≡ lock) passes.items
  pub counted : vec_len passes ≡ count

-- Passes made a history: its entries that have a pass's number are those that it made, and each entry is one of them.
pub record AreMakers {Val E A : Type 0} {g : Ghosts Val E} (caller_of : E → ℕ) (passes : Vec (Pass Val E g) A)
    (history : List E) : Type 0 where
  pub each : All (λ pass. entries_by caller_of (pass_number pass) history ≡ own pass) passes.items
  pub all : All (λ entry. Any (λ pass. pass_number pass ≡ caller_of entry) passes.items) history

-- So many passes of a floor's book were collected, and so many of each of its docks.
pub record AreCollected (floor : Floor) (books each : ℕ) (passes : Passes) : Type 0 where
  pub of_book : AreOf (book_id floor.book) books passes.books
  pub of_tables : AllZip (λ dock row. AreOf (dock_id dock) each row) floor.docks.items passes.tables.items

-- A journal and the histories of the tables begin with all that the passes have seen.
pub record AreSeen (end : Sights) (passes : Passes) : Type 0 where
  pub of_book : All (λ pass. IsPrefix (seen pass) end.journal) passes.books.items
  pub of_tables : (table : ℕ) → IfSome (of_table passes.tables.items table)
      (λ row. All (λ pass. IsPrefix (seen pass) (end.tables table)) row.items)

-- A journal and the history of a table begin with all that a worker's passes have seen.
pub record IsWorkSeen (end : Sights) (work : Work) : Type 0 where
  pub of_book : IsPrefix (seen work.book) end.journal
  pub table : ℕ
  pub of_table : IsPrefix (seen work.dock) (end.tables table)

-- There is room for all that comes back from so many tables and desks, and nothing is there yet.
pub record IsRoomFor {D : Type 0} (tables desks : ℕ) (room : Room D) : Type 0 where
  pub works : IsEmptyFor tables room.works
  pub attended : IsEmptyFor desks room.attended
  pub doors : IsEmptyFor desks room.doors
  pub failed : IsEmptyFor desks room.failed
  pub row : IsEmptyFor tables room.row
  pub of_book : IsEmptyFor (tables + desks) room.passes.books
  pub each_table : vec_len room.passes.tables ≡ tables
  pub of_tables : All (IsEmptyFor (desks + 1)) room.passes.tables.items
