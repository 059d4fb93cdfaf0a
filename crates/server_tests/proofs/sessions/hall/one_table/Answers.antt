use Rattle.std.proofs.Common.{◌≡◌, ◌∷◌, ℕ, zero, suc, [], Some, subst, sym}
use Rattle.table_dock.specs.declared.dock.TableDock.{TableDock}
use Rattle.table_dock.specs.Docks.{table_of}
use Rattle.session_desk.specs.Desks.{AreInOrder, of_table}
use Rattle.server_tests.proofs.sessions.hall.one_table.Goals as goal

-- What holds of one item at its place, counted from 1, holds of each that is found in the list of it.
at-place : {A : Type 0} (P : ℕ → A → Type 0) (one : A) → P 1 one → (k : ℕ) (item : A)
    → of_table (one ∷ []) k ≡ Some item → P k item
at-place P one here zero item is = absurd (cc)
at-place P one here (suc zero) item is = let same : one ≡ item = cc in subst (P 1) same here
at-place P one here (suc (suc k)) item is = absurd (cc)

in-order : (one : TableDock) → table_of one ≡ 1 → AreInOrder (one ∷ [])
in-order one first = at-place (λ table dock. table_of dock ≡ table) one first

pub returns-clause-order : goal.returns-clause-order
returns-clause-order g c =
    let is = c.expect-docks.ensures in let made = c.from_array.ensures.items in let docks = (rw is at made) in
    subst AreInOrder (sym docks) (in-order c.make_table-dock.result.dock c.make_table-dock.ensures.table)

pub returns-clause-first : goal.returns-clause-first
returns-clause-first g c =
    let is = c.expect-docks.ensures in let made = c.from_array.ensures.items in let docks = (rw is at made) in
    rw docks c.make_table-dock.ensures.worker

pub returns-clause-desk : goal.returns-clause-desk
returns-clause-desk g c =
    let is = c.expect-docks.ensures in let made = c.from_array.ensures.items in let docks = (rw is at made) in
    let is-2 = c.expect-desk.ensures in let made-2 = c.from_array-2.ensures.items in
    let desk = (rw is-2 at made-2) in
    rw docks (rw desk (c.make_table-dock.ensures.desks.0, tt))

pub returns-clause-other : goal.returns-clause-other
returns-clause-other g c =
    let is = c.expect-docks.ensures in let made = c.from_array.ensures.items in let docks = (rw is at made) in
    let is-3 = c.expect-other.ensures in let made-3 = c.from_array-3.ensures.items in
    let other = (rw is-3 at made-3) in
    rw docks (rw other (c.make_table-dock.ensures.desks.1, tt))
