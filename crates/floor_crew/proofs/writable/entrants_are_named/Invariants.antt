use Rattle.std.proofs.Common.{take}
use Rattle.std.specs.Prelude.{All}
use Rattle.view_rules.specs.declared.entries.JournalEntry.{JournalEntry}
use Rattle.floor_crew.specs.EnteredNames.{EntersByName}
use Rattle.floor_crew.proofs.writable.entrants_are_named.Given as goal

abbrev pub invariant-loop-entry : goal.invariant-loop-entry
invariant-loop-entry l = All (λ (entry : JournalEntry). EntersByName entry.event) (take l.entry-index l.entries)
