use Rattle.std.proofs.Common.{◌≡◌, List, subst, rules}
use Rattle.std.specs.Prelude.{All}
use Rattle.view_rules.specs.declared.entries.JournalEntry.{JournalEntry}
use Rattle.book_dock.specs.Ends.{journal_of}
use Rattle.floor_crew.specs.EnteredNames.{EntersByName}
use Rattle.floor_crew.proofs.AcceptedLines.{writable_journal}
use Rattle.floor_crew.proofs.writable.events_are_writable.Goals as goal

pub returns : goal.returns
returns c = λ legal.
    let journal = journal_of c.args.end.now in
    let same : c.deref.result.now ≡ journal = search rules in
    writable_journal journal legal
    (subst (λ (entries : List JournalEntry). All (λ (entry : JournalEntry). EntersByName entry.event) entries) same
    c.entrants_are_named.ensures)
