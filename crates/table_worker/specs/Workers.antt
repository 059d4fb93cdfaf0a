-- What contracts see of a worker. This project's own.
use Rattle.std.specs.Prelude.{◌≡◌, Bool, Option}
use Rattle.table_engine.specs.Hands.{HandTerms}
use Rattle.history_lock.specs.Passes.{lock_of, pass_number, seen}
use Rattle.dock_rules.specs.Journals.{Tale, tale_of}
use Rattle.table_dock.specs.declared.dock.TableDock.{TableDock}
use Rattle.table_dock.specs.Docks.{dock_id, table_of}
use Rattle.book_dock.specs.declared.dock.BookDock.{BookDock}
use Rattle.book_dock.specs.Docks.{book_id}
use Rattle.table_worker.specs.declared.worker.Worker.{Worker}
use Rattle.table_worker.specs.Stages.{does_ask, does_lie, hand_carried, is_done}

-- What the journal comes to that a worker has seen.
abbrev pub journal_of : Worker → Tale
journal_of worker = tale_of (seen worker.book)

-- Whether the hand of a worker lies at the dock.
abbrev pub is_lying : Worker → Bool
is_lying worker = does_lie worker.stage

-- The hand that was begun and is still to be brought to the dock, if there is one.
abbrev pub carried : Worker → Option HandTerms
carried worker = hand_carried worker.stage

-- Whether a worker asks for the order that is owed before the next hand.
abbrev pub is_asking : Worker → Bool
is_asking worker = does_ask worker.stage

-- Whether the last turn of a worker answered that the tournament was stopped.
abbrev pub has_ended : Worker → Bool
has_ended worker = is_done worker.stage

-- A worker's passes are those of these docks, and its table is the one that the dock is of.
pub record IsWorkerOf (book : BookDock) (dock : TableDock) (worker : Worker) : Type 0 where
  pub its_book : lock_of worker.book ≡ book_id book
  pub its_dock : lock_of worker.dock ≡ dock_id dock
  pub its_table : worker.table ≡ table_of dock

-- A worker has the same table and the same passes, which may have seen more.
pub record IsSameWorker (before after : Worker) : Type 0 where
  pub same_book : lock_of after.book ≡ lock_of before.book
  pub same_dock : lock_of after.dock ≡ lock_of before.dock
  pub same_number : pass_number after.book ≡ pass_number before.book
  pub same_table : after.table ≡ before.table
