use Rattle.std.specs.Prelude.{vec_len}
use Rattle.std.specs.List.{AllZip}
use Rattle.table_dock.specs.Docks.{dock_id, dock_passes}
use Rattle.floor_crew.specs.AtHand.{AreOf}
use Rattle.floor_crew.proofs.OpenedLocks.{AreClosing}
use Rattle.floor_crew.proofs.closing.close_tables.Given as goal

-- all passes of the docks that are left are there, and the locks of the others were opened
abbrev pub invariant-each : goal.invariant-each
invariant-each l = record {
  its : AllZip (λ dock row. AreOf (dock_id dock) (dock_passes dock) row) l.docks.items l.tables.items;
  closing : AreClosing l.tables.items l.initial.tables.items;
}

abbrev pub decreases-each : goal.decreases-each
decreases-each l = vec_len l.docks
