use Rattle.std.proofs.Common.{◌≡◌, ◌<◌, ◌∷◌, [], List, Some, length, refl, arith, rules}
use Rattle.std.proofs.lemmas.Option.{slice_get_read}
use Rattle.std.specs.Prelude.{slice_get}
use Rattle.std.specs.List.{AllZip}
use Rattle.history_lock.specs.declared.grows.Grows.{Ghosts}
use Rattle.history_lock.specs.declared.pass.Pass.{Pass}
use Rattle.history_lock.specs.Passes.{lock_of}
use Rattle.table_dock.specs.declared.dock.TableDock.{TableDock}
use Rattle.table_dock.specs.Docks.{dock_id}
use Rattle.server_tests.proofs.sessions.left.passes_of.Goals as goal

-- A pass of the first dock is that of the only one.
only : {Val E : Type 0} {g : Ghosts Val E} (docks : List TableDock) (pass : Pass Val E g) → length docks ≡ 1
    → ((dock : TableDock) → slice_get docks 0 ≡ Some dock → lock_of pass ≡ dock_id dock)
    → AllZip (λ (p : Pass Val E g) (dock : TableDock). lock_of p ≡ dock_id dock) (pass ∷ []) docks
only [] pass count its = absurd (omega (arith, count))
only (dock ∷ []) pass count its = (its dock refl, tt)
only (dock ∷ more ∷ rest) pass count its = absurd (omega (arith, count))

pub returns-clause-table : goal.returns-clause-table
returns-clause-table c =
    only c.args.hall.now.docks.items c.remove.result
    (let count = c.requires.count in omega (arith, count, c.args.hall.now.docks.ok.0))
    (λ dock is.
    let there : 0 < length c.args.desk.tables.items = search rules in
    let found : slice_get c.args.desk.tables.items 0 ≡ Some c.remove.result =
    slice_get_read c.args.desk.tables.items (length c.args.desk.tables.items) 0 c.remove.result refl there
    (rw (← c.parts-pass.ensures.1.0) c.remove.ensures.value) in
    let its = c.requires.desk.passes 1 dock is in (rw found at its))
