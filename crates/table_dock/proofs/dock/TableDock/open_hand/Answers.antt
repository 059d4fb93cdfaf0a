use Rattle.std.proofs.Common.{rules, ◌≡◌, ◌++◌, List, subst, sym}
use Rattle.std.specs.Prelude.{is_none}
use Rattle.history_lock.specs.Entries.{entries_by}
use Rattle.history_lock.specs.Passes.{own, seen}
use Rattle.view_rules.specs.declared.entries.TableEntry.{TableEntry}
use Rattle.view_rules.specs.declared.entries.TableEntry.TheVariants.{Opened}
use Rattle.dock_rules.specs.Added.{only_if}
use Rattle.dock_rules.specs.Tables.{AreOfTable, table_caller}
use Rattle.table_dock.specs.Docks.{table_of}
use Rattle.table_dock.proofs.OwnEntries.{none-by_own, table-by_own, table-opened}
use Rattle.table_dock.proofs.dock.TableDock.open_hand.Goals as goal

pub open-back-requires-clause-free : goal.open-back-requires-clause-free
open-back-requires-clause-free g c =
    let history : List TableEntry = c.value_mut.result.now in
    let mine : entries_by table_caller c.args.pass.number history ≡ own c.args.pass = search rules in
    none-by_own c.args.pass.number history (own c.args.pass) c.requires.worker mine c.requires.none_lies

pub returns-clause-table : goal.returns-clause-table
returns-clause-table g c = λ of.
    let table = table_of c.args.self.now in
    let worker : c.leave.result.number ≡ 0 = search rules in
    let after : own c.leave.result
    ≡ own c.args.pass ++ only_if (is_none c.open-back.result) (Opened c.args.hand.start) = search rules in
    table-by_own c.leave.result.number (seen c.leave.result) (own c.leave.result) worker c.leave.result.mine table
    (subst (AreOfTable table) (sym after)
    (table-opened table (own c.args.pass) (is_none c.open-back.result) c.args.hand.start of c.requires.table))
