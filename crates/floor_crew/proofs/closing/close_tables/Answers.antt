use Rattle.std.proofs.Common.{◌≡◌, rules, arith}
use Rattle.std.specs.Prelude.{vec_len}
use Rattle.std.proofs.lemmas.Slice.Zip.{AllZip-long}
use Rattle.table_dock.specs.declared.dock.TableDock.{TableDock}
use Rattle.table_dock.specs.Docks.{dock_id, dock_passes}
use Rattle.floor_crew.specs.AtHand.{AreOf}
use Rattle.floor_crew.proofs.OpenedLocks.{Row, all-closed, makers-of, none-closed, one-closed, pop-both}
use Rattle.floor_crew.proofs.closing.close_tables.Goals as goal

pub each-init : goal.each-init
each-init c = record { its = c.requires; closing = none-closed c.args.tables.items }

pub close_table-requires : goal.close_table-requires
close_table-requires c =
    (pop-both c.each.docks.items c.pop.new.self.items c.in-Some.dock c.each.tables.items c.take_last.new.row.items
    c.take_last.result c.in-Some.ensures.items c.take_last.ensures.last c.each.invariant.its).1

pub each-preserved : goal.each-preserved
each-preserved c =
    let both = pop-both c.each.docks.items c.pop.new.self.items c.in-Some.dock c.each.tables.items
    c.take_last.new.row.items c.take_last.result c.in-Some.ensures.items c.take_last.ensures.last c.each.invariant.its in
    record {
      its = both.0;
      closing = one-closed c.args.tables.items c.take_last.new.row.items c.each.tables.items c.take_last.result
          c.close_table.result.entries c.take_last.ensures.last (
            c.close_table.ensures.legal,
            c.close_table.ensures.seen,
            makers-of c.take_last.result c.close_table.result.entries (dock_passes c.in-Some.dock)
                c.close_table.ensures.own c.close_table.ensures.numbers c.close_table.ensures.others,
          ) c.each.invariant.closing;
    }

pub returns : goal.returns
returns c =
    let none : vec_len c.each.docks ≡ 0 = search rules in
    let many = AllZip-long (λ (dock : TableDock) (row : Row). AreOf (dock_id dock) (dock_passes dock) row)
    c.each.docks.items c.each.tables.items c.each.invariant.its in
    all-closed c.args.tables.items c.each.tables.items (omega (arith, many, none, c.each.docks.ok.0))
    c.each.invariant.closing
