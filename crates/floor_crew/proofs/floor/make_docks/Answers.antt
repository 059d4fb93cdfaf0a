use Rattle.std.proofs.Common.{◌≡◌, ◌+◌, sym, subst, length, rules, arith}
use Rattle.std.proofs.lemmas.List.Elements.{All-nil, All-push, All-same}
use Rattle.table_dock.specs.declared.dock.TableDock.{TableDock}
use Rattle.table_dock.specs.Docks.{dock_passes}
use Rattle.session_desk.specs.Desks.{AreInOrder}
use Rattle.floor_crew.proofs.Docking.{AreRows, empty-filled, empty-rows, in-order, none-in-order, rows-on, spread-filled}
use Rattle.floor_crew.proofs.floor.make_docks.Goals as goal

pub loop-index-init : goal.loop-index-init
loop-index-init c =
    let none = c.in_ok-docks.ensures.items in
    record {
      count = search rules;
      docks_room = search rules;
      order = none-in-order c.in_ok-docks.docks.items none;
      passes = All-same (λ (dock : TableDock). dock_passes dock ≡ c.args.desks + 1) c.in_ok-docks.docks.items _ none
          (All-nil (λ (dock : TableDock). dock_passes dock ≡ c.args.desks + 1));
      rows = search rules;
      room = empty-filled c.args.tables c.in_ok-rows.rows.items (search rules);
      fresh = subst (AreRows c.in_ok-rows.rows.items) (sym none)
          (empty-rows c.args.tables c.in_ok-rows.rows.items (search rules));
    }

pub loop-index-preserved : goal.loop-index-preserved
loop-index-preserved c =
    let was = c.loop-index.invariant in
    let dock = c.in_ok-dock.dock in
    let docks = c.loop-index.docks.items in
    let before = c.loop-index.rows.items in
    let after = c.spread.new.rows.items in
    let as_many : length c.in_ok-dock.passes.items ≡ length before = search rules in
    record {
      count = search rules;
      docks_room = search rules;
      order = subst AreInOrder (sym c.push_reserved.ensures.items)
          (in-order docks dock was.order
          (omega (arith, c.in_ok-dock.ensures.table, c.loop-index.docks.ok.0, was.count)));
      passes = All-same (λ (d : TableDock). dock_passes d ≡ c.args.desks + 1) c.push_reserved.new.self.items _
          c.push_reserved.ensures.items
          (All-push (λ (d : TableDock). dock_passes d ≡ c.args.desks + 1) docks dock was.passes
          c.in_ok-dock.ensures.passes);
      rows = omega (arith, c.spread.new.rows.ok.0, c.loop-index.rows.ok.0, c.spread.ensures.count, was.rows);
      room = spread-filled c.loop-index.index c.args.tables before after c.in_ok-dock.passes.items c.spread.ensures
          as_many was.room;
      fresh = subst (AreRows after) (sym c.push_reserved.ensures.items)
          (rows-on before after c.in_ok-dock.passes.items docks dock c.spread.ensures as_many
          c.in_ok-dock.ensures.fresh was.fresh);
    }
