use Rattle.std.proofs.Common.{rules, ◌≡◌, List}
use Rattle.history_lock.specs.Entries.{entries_by}
use Rattle.history_lock.specs.Passes.{own}
use Rattle.view_rules.specs.declared.entries.TableEntry.{TableEntry}
use Rattle.dock_rules.specs.Tables.{table_caller}
use Rattle.table_dock.proofs.OwnEntries.{some-by_own}
use Rattle.table_dock.proofs.dock.TableDock.close_hand.Goals as goal

pub close-hand-requires : goal.close-hand-requires
close-hand-requires g c =
    let history : List TableEntry = c.value_mut.result.now in
    let mine : entries_by table_caller c.args.pass.number history ≡ own c.args.pass = search rules in
    record { lies = some-by_own c.args.pass.number history (own c.args.pass) c.requires.worker mine c.requires.lies }
