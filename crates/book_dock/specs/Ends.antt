-- What contracts see of the end of a hand, and of that of a book. This project's own.
use Rattle.std.specs.Prelude.{Bool, true, false, List, Option, Some, None}
use Rattle.table_engine.specs.declared.record.HandRecord.{HandRecord}
use Rattle.view_rules.specs.declared.entries.JournalEntry.{JournalEntry}
use Rattle.book_dock.specs.declared.end.BookEnd.{BookEnd}
use Rattle.book_dock.specs.declared.settle.SettleEnd.{SettleEnd}
use Rattle.book_dock.specs.declared.settle.SettleEnd.TheVariants.{Settled, Stopped}

-- whether a hand was settled
abbrev pub is_settled : SettleEnd → Bool
is_settled Settled = true
is_settled (Stopped done) = false

-- the record that was handed back, if one was
abbrev pub given_back : SettleEnd → Option HandRecord
given_back Settled = None
given_back (Stopped done) = Some done

-- the journal of a book whose lock was opened
abbrev pub journal_of : BookEnd → List JournalEntry
journal_of end = end.hold.journal.items
