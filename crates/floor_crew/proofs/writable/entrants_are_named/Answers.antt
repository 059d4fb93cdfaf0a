use Rattle.std.proofs.Common.{◌<◌, ◌≤◌, List, subst, length, take_all, arith}
use Rattle.std.specs.Prelude.{All}
use Rattle.std.proofs.lemmas.List.Elements.{All-more}
use Rattle.view_rules.specs.declared.entries.JournalEntry.{JournalEntry}
use Rattle.floor_crew.specs.EnteredNames.{EntersByName}
use Rattle.floor_crew.proofs.writable.entrants_are_named.Goals as goal

pub loop-entry-preserved : goal.loop-entry-preserved
loop-entry-preserved c =
    let within : c.loop-entry.entry-index < length c.args.entries.now = omega arith in
    All-more (λ (entry : JournalEntry). EntersByName entry.event) c.args.entries.now c.loop-entry.entry-index
    c.entry-item.result within c.loop-entry.invariant
    (subst (λ (entry : JournalEntry). EntersByName entry.event) c.entry-item.is c.entrant_is_named.ensures)

pub returns : goal.returns
returns c =
    let past : length c.args.entries.now ≤ c.loop-entry.entry-index = omega arith in
    subst (λ (entries : List JournalEntry). All (λ (entry : JournalEntry). EntersByName entry.event) entries)
    (take_all c.loop-entry.entry-index c.args.entries.now past) c.loop-entry.invariant
