-- What is written of an entry of the journal. This project's own.
use Rattle.std.specs.Prelude.{ℕ, List}
use Rattle.std.specs.List.{flat_map}
use Rattle.replay_rules.specs.Replay.{event_line}
use Rattle.view_rules.specs.declared.entries.JournalEntry.{JournalEntry}
use Rattle.dock_rules.specs.Journals.{events_of}

-- a line for each event of an entry: before a settle for each act of its hand
abbrev pub entry_text : JournalEntry → List ℕ
entry_text entry = flat_map event_line (events_of entry)
