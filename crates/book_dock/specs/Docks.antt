-- What contracts see of a book's dock. This project's own.
use Rattle.std.specs.Prelude.{ℕ, List}
use Rattle.history_lock.specs.Passes.{LockId, lock_id, opening_value, pass_count}
use Rattle.view_rules.specs.declared.entries.JournalEntry.{JournalEntry}
use Rattle.book_dock.specs.declared.dock.BookDock.{BookDock}

-- the lock of a dock
abbrev pub book_id : BookDock → LockId
book_id dock = lock_id dock.lock

-- how many passes a dock was made with
abbrev pub book_passes : BookDock → ℕ
book_passes dock = pass_count dock.lock

-- the journal that a dock was made with, before any entry of a pass
abbrev pub book_opening : BookDock → List JournalEntry
book_opening dock = (opening_value dock.lock).journal.items
