use Rattle.std.proofs.Common.{◌≡◌, ◌++◌, take}
use Rattle.dock_rules.specs.Points.{journal_text}
use Rattle.book_dock.proofs.lines.push_entries.Given as goal

-- The lines of the entries so far are behind what there was.
abbrev pub invariant-loop-entry : goal.invariant-loop-entry
invariant-loop-entry l = l.out.items ≡ l.initial.out.items ++ journal_text (take l.entry-index l.entries)
