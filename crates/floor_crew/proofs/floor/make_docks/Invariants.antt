use Rattle.std.proofs.Common.{◌≡◌, ◌+◌, ◌≤◌, ℕ, [], All, IfSome, slice_get, vec_capacity, vec_len}
use Rattle.std.specs.List.{AllZip}
use Rattle.history_lock.specs.Passes.{IsFresh}
use Rattle.table_dock.specs.Docks.{dock_id, dock_passes}
use Rattle.session_desk.specs.Desks.{AreInOrder}
use Rattle.floor_crew.proofs.Docking.{IsFilled}
use Rattle.floor_crew.proofs.floor.make_docks.Given as goal

-- the docks so far are in order, and each row has a pass of each
abbrev pub invariant-loop-index : goal.invariant-loop-index
invariant-loop-index l = record {
  count : vec_len l.docks ≡ l.index;
  docks_room : l.tables ≤ vec_capacity l.docks;
  order : AreInOrder l.docks.items;
  passes : All (λ dock. dock_passes dock ≡ l.desks + 1) l.docks.items;
  rows : vec_len l.rows ≡ l.desks + 1;
  room : All (IsFilled l.index l.tables) l.rows.items;
  fresh : (number : ℕ) → IfSome (slice_get l.rows.items number)
      (λ row. AllZip (λ dock pass. IsFresh (dock_id dock) number [] pass) l.docks.items row.items);
}
