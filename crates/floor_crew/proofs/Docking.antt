-- The docks of the tables are made, one after another.
use Rattle.std.proofs.Common.{◌≡◌, ◌⊎◌, inl, inr, refl, sym, ap, subst, ℕ, zero, suc, ◌+◌, ◌≤◌, List, [], ◌∷◌, ◌++◌, Some, length, length-append, arith}
use Rattle.std.specs.Prelude.{All, IfSome, Vec, slice_get, vec_capacity, vec_len}
use Rattle.std.specs.List.{AllZip}
use Rattle.std.proofs.lemmas.Option.{slice_get_within}
use Rattle.history_lock.specs.declared.grows.Grows.{Ghosts}
use Rattle.history_lock.specs.declared.pass.Pass.{Pass}
use Rattle.history_lock.specs.Passes.{AreFresh, IsFresh}
use Rattle.table_dock.specs.declared.dock.TableDock.{TableDock}
use Rattle.table_dock.specs.Docks.{dock_id, table_of}
use Rattle.session_desk.specs.Desks.{AreInOrder}
use Rattle.session_desk.proofs.Rows.{if-some}
use Rattle.floor_crew.specs.Rows.{AreSpread, IsEmptyFor}
use Rattle.floor_crew.proofs.Spreading.{spread-at}
use Rattle.floor_crew.proofs.Zipped.{all-at, all-from, if-found, zip-push}

-- an item before one more, or that one
get-either : {A : Type 0} (items : List A) (last : A) (index : ℕ) (item : A)
    → slice_get (items ++ last ∷ []) index ≡ Some item
    → (slice_get items index ≡ Some item) ⊎ ((index ≡ length items) × (last ≡ item))
get-either [] last zero item at = inr (refl, cc (at))
get-either [] last (suc index) item at = absurd (cc (at))
get-either (first ∷ items) last zero item at = inl at
get-either (first ∷ items) last (suc index) item at =
    elim (get-either items last index item at) [
      | inl before ↦ inl before
      | inr is ↦ inr (ap suc is.0, is.1)
    ]

-- one dock more, which is of the next table
pub in-order : (docks : List TableDock) (dock : TableDock) → AreInOrder docks → table_of dock ≡ length docks + 1
    → AreInOrder (docks ++ dock ∷ [])
in-order docks dock order next zero found at = absurd (cc (at))
in-order docks dock order next (suc index) found at =
    elim (get-either docks dock index found at) [
      | inl before ↦ order (suc index) found before
      | inr is ↦
          let same : table_of dock ≡ table_of found = ap table_of is.1 in omega (arith, same, next, is.0)
    ]

module _ {T A : Type 0} where
  -- So many things are in a row, which has room for so many.
  pub record IsFilled (count room : ℕ) (row : Vec T A) : Type 0 where
    pub counted : vec_len row ≡ count
    pub has_room : room ≤ vec_capacity row

  -- an empty row
  pub empty-filled : (room : ℕ) (rows : List (Vec T A)) → All (IsEmptyFor room) rows → All (IsFilled 0 room) rows
  empty-filled room rows each = all-from (IsFilled 0 room) rows
      (λ index row at.
      let is = all-at (IsEmptyFor room) rows each index row at in
      let none = ap length is.none in
      record { counted = omega (arith, row.ok.0, none); has_room = is.room })

  -- one thing more in each row
  pub spread-filled : (count room : ℕ) (before after : List (Vec T A)) (things : List T)
      → AreSpread before after things → length things ≡ length before → All (IsFilled count room) before
      → All (IsFilled (count + 1) room) after
  spread-filled count room before after things spread as_many each = all-from (IsFilled (count + 1) room) after
      (λ index row at.
      let within = slice_get_within after index row at in
      let here = spread-at before after things spread as_many index (omega (arith, within, spread.count)) in
      let same : here.2 ≡ row = cc (here.5, at) in
      let old = all-at (IsFilled count room) before each index here.0 here.3 in
      let longer = ap length here.6.items in
      subst (IsFilled (count + 1) room) same
      (record {
        counted = omega (arith, here.2.ok.0, here.0.ok.0, longer, length-append here.0.items (here.1 ∷ []), old.counted);
        has_room = omega (arith, old.has_room, here.6.room);
      }))

module _ {Val E A : Type 0} {g : Ghosts Val E} where
  -- In each row are passes of these docks, with the row's number.
  abbrev pub AreRows : List (Vec (Pass Val E g) A) → List TableDock → Type 0
  AreRows rows docks = (number : ℕ) → IfSome (slice_get rows number)
      (λ row. AllZip (λ dock pass. IsFresh (dock_id dock) number [] pass) docks row.items)

  -- empty rows have passes of no dock
  pub empty-rows : (room : ℕ) (rows : List (Vec (Pass Val E g) A)) → All (IsEmptyFor room) rows → AreRows rows []
  empty-rows room rows each number = if-some (slice_get rows number)
      (λ row. AllZip (λ (dock : TableDock) pass. IsFresh (dock_id dock) number [] pass) [] row.items)
      (λ row at.
      subst (AllZip (λ (dock : TableDock) pass. IsFresh (dock_id dock) number [] pass) [])
      (sym (all-at (IsEmptyFor room) rows each number row at).none) tt)

  -- the passes of one dock more
  pub rows-on : (before after : List (Vec (Pass Val E g) A)) (passes : List (Pass Val E g)) (docks : List TableDock)
      (dock : TableDock) → AreSpread before after passes → length passes ≡ length before
      → AreFresh (dock_id dock) [] passes → AreRows before docks → AreRows after (docks ++ dock ∷ [])
  rows-on before after passes docks dock spread as_many fresh rows number = if-some (slice_get after number)
      (λ row. AllZip (λ (d : TableDock) pass. IsFresh (dock_id d) number [] pass) (docks ++ dock ∷ []) row.items)
      (λ row at.
      let R : TableDock → Pass Val E g → Type 0 = λ d pass. IsFresh (dock_id d) number [] pass in
      let within = slice_get_within after number row at in
      let here = spread-at before after passes spread as_many number (omega (arith, within, spread.count)) in
      let same : here.2 ≡ row = cc (here.5, at) in
      let old = if-found (λ r. AllZip R docks r.items) (slice_get before number) here.0 here.3 (rows number) in
      subst (λ r. AllZip R (docks ++ dock ∷ []) r.items) same
      (subst (AllZip R (docks ++ dock ∷ [])) (sym here.6.items)
      (zip-push R docks here.0.items dock here.1 old (fresh number here.1 here.4))))

-- no docks are in order
pub none-in-order : (docks : List TableDock) → docks ≡ [] → AreInOrder docks
none-in-order docks none = subst AreInOrder (sym none) in-none
  where
    in-none : AreInOrder []
    in-none zero dock at = absurd (cc (at))
    in-none (suc index) dock at = absurd (cc (at))
