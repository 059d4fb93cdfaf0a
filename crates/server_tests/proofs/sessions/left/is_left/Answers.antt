use Rattle.std.proofs.Common.{◌≡◌, ◌∷◌, ℕ, [], List, length, arith}
use Rattle.std.specs.Prelude.{IfSome, slice_get}
use Rattle.std.specs.List.{AllZip}
use Rattle.history_lock.specs.declared.grows.Grows.{Ghosts}
use Rattle.history_lock.specs.declared.pass.Pass.{Pass}
use Rattle.history_lock.specs.Passes.{lock_of}
use Rattle.table_dock.specs.declared.dock.TableDock.{TableDock}
use Rattle.table_dock.specs.Docks.{dock_id}
use Rattle.server_tests.proofs.sessions.left.is_left.Goals as goal

-- A pass of the first dock is that of the only one.
only : {Val E : Type 0} {g : Ghosts Val E} (Other : Type 0) (docks : List TableDock) (pass : Pass Val E g)
    → length docks ≡ 1 → IfSome (slice_get docks 0) (λ dock. Other × (lock_of pass ≡ dock_id dock))
    → AllZip (λ (p : Pass Val E g) (dock : TableDock). lock_of p ≡ dock_id dock) (pass ∷ []) docks
only Other [] pass count its = absurd (omega (arith, count))
only Other (dock ∷ []) pass count its = (its.1, tt)
only Other (dock ∷ more ∷ rest) pass count its = absurd (omega (arith, count))

pub close_table-table-requires-clause-worker : goal.close_table-table-requires-clause-worker
close_table-table-requires-clause-worker g c =
    only _ c.args.hall.docks.items c.args.worker.1 (let count = c.check_one.ensures in
    omega (arith, count, c.args.hall.docks.ok.0)) c.requires.worker
