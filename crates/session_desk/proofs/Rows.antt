-- One item of a row taken out and another put in its place.
use Rattle.std.proofs.Common.{◌≡◌, ◌≢◌, refl, sym, ap, subst, ℕ, zero, suc, ◌+◌, ◌<◌, List, [], ◌∷◌, Option, Some, None, length, set, arith}
use Rattle.std.specs.Prelude.{slice_get, IfSome}
use Rattle.std.specs.List.{insert, remove}
use Rattle.std.proofs.lemmas.List.Edits.{length-insert, length-remove}
use Rattle.session_desk.specs.Desks.{of_table}

module _ {A : Type 0} where
  -- the item that was put there
  pub put-here : (items : List A) (index : ℕ) (item : A) → index < length items
      → slice_get (insert (remove items index) index item) index ≡ Some item
  put-here [] index item within = absurd (omega (arith, within))
  put-here (first ∷ rest) zero item within = refl
  put-here (first ∷ rest) (suc index) item within = put-here rest index item (omega (arith, within))

  -- and each other one
  pub put-elsewhere : (items : List A) (index other : ℕ) (item : A) → index < length items → other ≢ index
      → slice_get (insert (remove items index) index item) other ≡ slice_get items other
  put-elsewhere [] index other item within ne = absurd (omega (arith, within))
  put-elsewhere (first ∷ rest) zero zero item within ne = absurd (ne refl)
  put-elsewhere (first ∷ rest) zero (suc other) item within ne = refl
  put-elsewhere (first ∷ rest) (suc index) zero item within ne = refl
  put-elsewhere (first ∷ rest) (suc index) (suc other) item within ne =
      put-elsewhere rest index other item (omega (arith, within)) (λ same. ne (ap suc same))

  -- there are as many
  pub put-count : (items : List A) (index : ℕ) (item : A) → index < length items
      → length (insert (remove items index) index item) ≡ length items
  put-count items index item within =
      let fewer = length-remove items index within in
      let again = length-insert (remove items index) index item (omega (arith, fewer, within)) in
      omega (arith, fewer, again)

  -- what holds of each item and itself holds of the items of a table
  pub with-itself : (P : A → A → Type 0) → ((item : A) → P item item) → (found : Option A)
      → IfSome found (λ one. IfSome found (λ other. P one other))
  with-itself P each None = tt
  with-itself P each (Some item) = each item

  -- what holds of two items that are found holds of what is found
  pub of-found : (P : A → A → Type 0) (one other : A) (found later : Option A) → found ≡ Some one
      → later ≡ Some other → P one other → IfSome found (λ x. IfSome later (λ y. P x y))
  of-found P one other found later is then holds =
      subst (λ (o : Option A × Option A). IfSome o.0 (λ x. IfSome o.1 (λ y. P x y)))
      (λ i. (sym is i, sym then i)) holds

  -- the item of a table, by its index
  pub at-table : (items : List A) (index : ℕ) → of_table items (index + 1) ≡ slice_get items index
  at-table items index = let next : index + 1 ≡ suc index = omega arith in ap (of_table items) next

  -- an item of a table with an index
  pub has-index : (items : List A) (index : ℕ) → index < length items → (item : A) × (slice_get items index ≡ Some item)
  has-index [] index within = absurd (omega (arith, within))
  has-index (first ∷ rest) zero within = (first, refl)
  has-index (first ∷ rest) (suc index) within = has-index rest index (omega (arith, within))

  -- the item that was set
  pub set-here : (items : List A) (index : ℕ) (item : A) → index < length items
      → slice_get (set items index item) index ≡ Some item
  set-here [] index item within = absurd (omega (arith, within))
  set-here (first ∷ rest) zero item within = refl
  set-here (first ∷ rest) (suc index) item within = set-here rest index item (omega (arith, within))

  -- and each other one
  pub set-elsewhere : (items : List A) (index other : ℕ) (item : A) → other ≢ index
      → slice_get (set items index item) other ≡ slice_get items other
  set-elsewhere [] index other item ne = refl
  set-elsewhere (first ∷ rest) zero zero item ne = absurd (ne refl)
  set-elsewhere (first ∷ rest) zero (suc other) item ne = refl
  set-elsewhere (first ∷ rest) (suc index) zero item ne = refl
  set-elsewhere (first ∷ rest) (suc index) (suc other) item ne =
      set-elsewhere rest index other item (λ same. ne (ap suc same))

  -- what is so of the value of what is found, whatever it is, is so of what is found
  pub if-some : (found : Option A) (P : A → Type 0) → ((item : A) → found ≡ Some item → P item) → IfSome found P
  if-some None P each = tt
  if-some (Some item) P each = each item refl
