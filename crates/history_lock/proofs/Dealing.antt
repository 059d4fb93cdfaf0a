-- How passes are given out, and how they come back.
use Rattle.std.proofs.Common.{◌≡◌, ◌≢◌, ◌⊎◌, ℕ, zero, suc, ◌+◌, ◌-◌, ◌<◌, ◌≤◌, List, [], ◌∷◌, ◌++◌, map, length, refl, sym, ap, ◌∙◌, subst, inl, inr, ⊎_elim, arith, Some, slice_get, append_assoc}
use Rattle.std.proofs.lemmas.List.{map-append}
use Rattle.atomic_table.specs.Table.{Splits}
use Rattle.atomic_table.specs.Seated.{TableId}
use Rattle.history_lock.specs.declared.grows.Grows.{Ghosts}
use Rattle.history_lock.specs.declared.pass.Pass.{Pass}
use Rattle.history_lock.specs.declared.view.Share.{Share}
use Rattle.history_lock.specs.declared.view.View.{View}
use Rattle.history_lock.specs.Passes.{IsFresh, AreFresh, share_of}
use Rattle.history_lock.specs.Views.{Each, view_of, shares_from, further_shares, only_first, first_share, resting_view}
use Rattle.history_lock.specs.Rule.{IsKept}
use Rattle.history_lock.proofs.Seats.{splits}

module _ {A : Type 0} where
  -- nothing stands in an empty list
  pub none_there : (k : ℕ) (x : A) → slice_get [] k ≡ Some x → ⊥
  none_there k x e = cc

  -- what stands in a longer list, at an old index or at the new one
  pub get_push : (xs : List A) (x y : A) (j : ℕ) → slice_get (xs ++ x ∷ []) j ≡ Some y
      → (slice_get xs j ≡ Some y) ⊎ ((j ≡ length xs) × (x ≡ y))
  get_push [] x y zero e = inr (refl, cc)
  get_push [] x y (suc j) e = absurd cc
  get_push (z ∷ zs) x y zero e = inl e
  get_push (z ∷ zs) x y (suc j) e = ⊎_elim (λ h. inl h) (λ (t : (j ≡ length zs) × (x ≡ y)). inr (ap suc t.0, t.1))
      (get_push zs x y j e)

module _ {Val E : Type 0} {g : Ghosts Val E} where
  -- one more fresh pass behind the others
  pub fresh_push : (lock : TableId) (history : List E) (passes : List (Pass Val E g)) (pass : Pass Val E g) (k : ℕ)
      → length passes ≡ k → AreFresh lock history passes → IsFresh lock k history pass
      → AreFresh lock history (passes ++ pass ∷ [])
  fresh_push lock history passes pass k len all new j p e = ⊎_elim (λ o. all j p o)
      (λ (t : (j ≡ length passes) × (pass ≡ p)). subst (λ (z : ℕ × Pass Val E g). IsFresh lock z.0 history z.1)
      (λ i. (sym (t.0 ∙ len) i, t.1 i)) new) (get_push passes pass p j e)

-- the shares behind the first have other numbers
shares_apart : {E : Type 0} (k i m : ℕ) (seen : List E) → k < i
    → Each (λ (z : Share E). k ≢ z.number) (shares_from i m seen)
shares_apart k i zero seen lt = tt
shares_apart k i (suc m) seen lt = ((λ e. omega arith), shares_apart k (i + 1) m seen (omega arith))

-- the view of a seat that has m shares from k on to give
abbrev pub giving : {E : Type 0} → ℕ → ℕ → List E → View E
giving k m seen = view_of (shares_from k m seen)

module _ {Val E : Type 0} (history : Val → List E) (caller_of : E → ℕ) (n : ℕ) (start : List E) where
  -- the first of the shares that are left is given
  pub gives_first : (id k m : ℕ) (seen : List E) (v : View E) → v ≡ giving k (suc m) seen
      → Splits (IsKept history caller_of n start) id v (record v { shares = further_shares v.shares })
      (view_of (only_first v.shares))
  gives_first id k m seen v is =
      subst (λ (z : View E). Splits (IsKept history caller_of n start) id z (record z { shares = further_shares z.shares })
      (view_of (only_first z.shares))) (sym is)
      (splits history caller_of n start id (giving k (suc m) seen) (record { number = k; seen = seen; own = [] })
      (shares_from (k + 1) m seen) refl (shares_apart k (k + 1) m seen (omega arith)) refl refl)

  -- where more than one is left
  pub gives : (id k m lim : ℕ) (seen : List E) (v : View E) → v ≡ giving k m seen → k + m ≡ lim → k < lim - 1
      → Splits (IsKept history caller_of n start) id v (record v { shares = further_shares v.shares })
      (view_of (only_first v.shares))
  gives id k zero lim seen v is sum lt = absurd (omega arith)
  gives id k (suc m) lim seen v is sum lt = gives_first id k m seen v is

module _ {E : Type 0} where
  -- the others are left
  pub left_over : (k m lim : ℕ) (seen : List E) (v : View E) → v ≡ giving k m seen → k + m ≡ lim → k < lim - 1
      → (i : ℕ) × (k + 1 + i ≡ lim) × (record v { shares = further_shares v.shares } ≡ giving (k + 1) i seen)
  left_over k zero lim seen v is sum lt = absurd (omega arith)
  left_over k (suc m) lim seen v is sum lt =
      (m, omega arith, ap (λ (z : View E). record z { shares = further_shares z.shares }) is)

  -- one is given
  pub given_one : (k m lim : ℕ) (seen : List E) (v : View E) → v ≡ giving k m seen → k + m ≡ lim → k < lim
      → view_of (only_first v.shares) ≡ giving k 1 seen
  given_one k zero lim seen v is sum lt = absurd (omega arith)
  given_one k (suc m) lim seen v is sum lt = ap (λ (z : View E). view_of (only_first z.shares)) is

  -- the last is left
  pub last_one : (k m lim : ℕ) (seen : List E) (v : View E) → v ≡ giving k m seen → k + m ≡ lim → lim - 1 ≤ k → k < lim
      → v ≡ giving k 1 seen
  last_one k m lim seen v is sum le lt = let one : m ≡ 1 = omega arith in is ∙ ap (λ i. giving k i seen) one

  -- such a seat is at rest
  pub giving_rests : (k : ℕ) (seen : List E) (v : View E) → v ≡ giving k 1 seen → v ≡ resting_view k 0 v
  giving_rests k seen v is = subst (λ (z : View E). z ≡ resting_view k 0 z) (sym is) refl

module _ {Val E : Type 0} {g : Ghosts Val E} where
  -- and its pass is fresh
  pub giving_is_fresh : (lock : TableId) (k : ℕ) (seen : List E) (pass : Pass Val E g) → pass.seat.table_id ≡ lock
      → pass.number ≡ k → pass.known ≡ 0 → pass.seat.me.0 ≡ giving k 1 seen → IsFresh lock k seen pass
  giving_is_fresh lock k seen pass at number known is = record {
    its_lock = at;
    its_number = number;
    all_seen = ap (λ (z : View E). (first_share z.shares).seen) is;
    none_own = ap (λ (z : View E). (first_share z.shares).own) is;
    no_hold = ap (λ (z : View E). z.holds) is;
    none_known = known;
  }

  -- a pass at rest has the one share that stands of it
  pub share_at_rest : (pass : Pass Val E g) → pass.seat.me.0.shares ≡ share_of pass ∷ []
  share_at_rest pass = ap (λ (z : View E). z.shares) pass.at_rest

  -- the shares of a list whose last pass is taken from it
  pub shares-pop : (passes rest : List (Pass Val E g)) (pass : Pass Val E g) (taken : List (Share E))
      → passes ≡ rest ++ pass ∷ []
      → map share_of passes ++ taken ≡ map share_of rest ++ (pass.seat.me.0.shares ++ taken)
  shares-pop passes rest pass taken e =
      ap (λ (l : List (Pass Val E g)). map share_of l ++ taken) e
      ∙ (ap (λ (l : List (Share E)). l ++ taken) (map-append share_of rest (pass ∷ []))
      ∙ (append_assoc (map share_of rest) (share_of pass ∷ []) taken
      ∙ ap (λ (l : List (Share E)). map share_of rest ++ (l ++ taken)) (sym (share_at_rest pass))))

-- what the first of the shares at the start has seen
pub opening_seen : {E : Type 0} (n : ℕ) (seen : List E) → 0 < n → (first_share (shares_from 0 n seen)).seen ≡ seen
opening_seen zero seen lt = absurd (omega arith)
opening_seen (suc n) seen lt = refl
