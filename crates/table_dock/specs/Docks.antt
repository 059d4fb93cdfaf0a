-- What contracts see of a dock. This project's own.
use Rattle.std.specs.Prelude.{ℕ}
use Rattle.history_lock.specs.Passes.{LockId, lock_id, pass_count}
use Rattle.table_dock.specs.declared.dock.TableDock.{TableDock}

-- The lock of a dock.
abbrev pub dock_id : TableDock → LockId
dock_id dock = lock_id dock.lock

-- The number of the table that a dock is of.
abbrev pub table_of : TableDock → ℕ
table_of dock = dock.table

-- How many passes a dock was made with.
abbrev pub dock_passes : TableDock → ℕ
dock_passes dock = pass_count dock.lock
