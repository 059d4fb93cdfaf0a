-- What the last state says, once a seat has taken in all passes.
use Rattle.std.proofs.Common.{◌≡◌, ◌≢◌, ℕ, suc, ◌<◌, ◌≤◌, false, List, [], ◌∷◌, map, length, refl, sym, ap, ◌∙◌, subst, ⊎_elim, arith, Option, Some, All, Any}
use Rattle.std.proofs.lemmas.Bool.{false_from_ne_true}
use Rattle.std.proofs.lemmas.List.{nil_from_length}
use mathlib.Core.Logic.{dite}
use mathlib.Core.Option.{some, some-injective}
use mathlib.Core.List.{IsPrefix}
use native.Mathlib.Decide.{ℕ_discrete}
use lib.ListN.{get_elem?, length-map}
use Rattle.atomic_table.specs.Table.{State, Final, Seen}
use Rattle.history_lock.specs.declared.grows.Grows.{Ghosts}
use Rattle.history_lock.specs.declared.pass.Pass.{Pass}
use Rattle.history_lock.specs.declared.view.Share.{Share}
use Rattle.history_lock.specs.declared.view.View.{View}
use Rattle.history_lock.specs.Entries.{entries_by, IsGrownByPasses}
use Rattle.history_lock.specs.Views.{Each, AtLeastOne, HasView}
use Rattle.history_lock.specs.Passes.{pass_number, seen, own, share_of}
use Rattle.history_lock.specs.Rule.{IsKept, IsKeptShare}
use Rattle.history_lock.proofs.Lists.{each_map, all_of_each, two_le_sum_by}
use Rattle.history_lock.proofs.Frames.{shares_of, same_view}

module _ {A B : Type 0} (f : A → B) where
  each_of_map : (P : B → Type 0) (xs : List A) → Each P (map f xs) → Each (λ x. P (f x)) xs
  each_of_map P [] p = tt
  each_of_map P (x ∷ xs) p = (p.0, each_of_map P xs p.1)

  pub all_of_map : (P : B → Type 0) (xs : List A) → Each P (map f xs) → All (λ x. P (f x)) xs
  all_of_map P xs p = all_of_each (λ x. P (f x)) xs (each_of_map P xs p)

  pub any_of_map : (P : B → Type 0) (xs : List A) → AtLeastOne P (map f xs) → Any (λ x. P (f x)) xs
  any_of_map P [] p = absurd p
  any_of_map P (x ∷ xs) p =
      ⊎_elim (λ h. (0, x, omega arith, refl, h)) (λ h. let t = any_of_map P xs h in
      (suc t.0, t.1, let lt = t.2 in omega arith, t.3, t.4)) p

module _ {Val E : Type 0} (history : Val → List E) (caller_of : E → ℕ) (n : ℕ) (start : List E) where
  abbrev St : Type 0
  St = State (Option Val) (View E)

  -- the value at the end fits each share that was taken in
  pub record IsLast (v : View E) (x : Val) : Type 0 where
    pub begins : Each (λ (z : Share E). IsPrefix z.seen (history x)) v.shares
    pub own : Each (λ (z : Share E). entries_by caller_of z.number (history x) ≡ z.own) v.shares
    pub numbers : (k : ℕ) → k < n → AtLeastOne (λ (z : Share E). z.number ≡ k) v.shares
    pub grown : IsGrownByPasses caller_of n start (history x)

  pub closes : (id : ℕ) (v : View E) (words : List ℕ) (slots : List (Option Val)) → v.served ≡ false
      → n ≤ length v.shares
      → Final (Seen (IsKept history caller_of n start) id v) words slots
      → (x : Val) × (get_elem? slots 0 ≡ some (Some x)) × IsLast v x
  closes id v words slots out whole f =
      let s : St = f.0 in let r = f.1.0 in let at = f.1.1 in
      let none_left : (j : ℕ) (a : View E) → j ≢ id → HasView s.views j a → a.shares ≡ [] = λ j a ne h.
      let two = two_le_sum_by shares_of s.views id j v a (λ e. ne (sym e)) at h in
      nil_from_length a.shares (omega (arith, r.numbers.once)) in
      let quiet : (j : ℕ) (a : View E) → HasView s.views j a → a.served ≡ false = λ j a h. dite (ℕ_discrete j id)
      (λ e. ap (λ (z : View E). z.served) (same_view s.views id a v (subst (λ k. HasView s.views k a) e h) at) ∙ out)
      (λ ne. false_from_ne_true a.served (λ is. let t = r.served.ticket j a h is in let i =
      (r.spent j a h (none_left j a ne h)).no_ticket in absurd (cc (t, i)))) in
      let home = r.slot.home quiet in
      let Own : Share E → Type 0 = IsKeptShare caller_of n r.now r.keeper id in (
        home.0,
        f.4 0 (Some home.0) (ap (λ hs. get_elem? hs 0) home.1),
        record {
          begins = each_map (λ (z : Share E). IsPrefix z.seen r.now)
              (λ (z : Share E). IsPrefix z.seen (history home.0)) v.shares
              (λ z p. subst (IsPrefix z.seen) (sym home.2) p) (r.longest.begin_it id v at);
          own = each_map Own (λ (z : Share E). entries_by caller_of z.number (history home.0) ≡ z.own) v.shares
              (λ z p. ap (entries_by caller_of z.number) home.2 ∙ sym p.2) (r.numbers.own id v at);
          numbers = λ k l. let t = r.numbers.kept k l in let Is : Share E
              → Type 0 = λ z. z.number ≡ k in dite (ℕ_discrete (r.keeper k) id)
              (λ e. subst (λ (z : View E). AtLeastOne Is z.shares)
              (same_view s.views id t.0 v (subst (λ i. HasView s.views i t.0) e t.1) at) t.2)
              (λ ne. absurd (subst (AtLeastOne Is) (none_left (r.keeper k) t.0 ne t.1) t.2));
          grown = subst (IsGrownByPasses caller_of n start) (sym home.2) r.grown;
        },
      )

module _ {Val E : Type 0} {g : Ghosts Val E} (history : Val → List E) (caller_of : E → ℕ) (n : ℕ) (start : List E) where
  -- the value that is given fits each pass that was taken in
  pub record FitsAll (passes : List (Pass Val E g)) (value : Val) : Type 0 where
    pub begins : All (λ p. IsPrefix (seen p) (history value)) passes
    pub own_is : All (λ p. entries_by caller_of (pass_number p) (history value) ≡ own p) passes
    pub numbers : (k : ℕ) → k < n → Any (λ p. pass_number p ≡ k) passes
    pub grown : IsGrownByPasses caller_of n start (history value)

  fits_all : (passes : List (Pass Val E g)) (v : View E) (x : Val) → v.shares ≡ map share_of passes
      → IsLast history caller_of n start v x → FitsAll passes x
  fits_all passes v x are last = record {
    begins = all_of_map share_of (λ (z : Share E). IsPrefix z.seen (history x)) passes
        (subst (Each (λ (z : Share E). IsPrefix z.seen (history x))) are last.begins);
    own_is = all_of_map share_of (λ (z : Share E). entries_by caller_of z.number (history x) ≡ z.own) passes
        (subst (Each (λ (z : Share E). entries_by caller_of z.number (history x) ≡ z.own)) are last.own);
    numbers = λ k l. any_of_map share_of (λ (z : Share E). z.number ≡ k) passes
        (subst (AtLeastOne (λ (z : Share E). z.number ≡ k)) are (last.numbers k l));
    grown = last.grown;
  }

  -- the value that comes out of the slot
  pub comes_out : (passes : List (Pass Val E g)) (id : ℕ) (v : View E) (words : List ℕ) (slots : List (Option Val))
      (got : Option Val) → v.shares ≡ map share_of passes → v.served ≡ false → n ≤ length passes
      → Final (Seen (IsKept history caller_of n start) id v) words slots → get_elem? slots 0 ≡ some got
      → (x : Val) × (got ≡ Some x) × FitsAll passes x
  comes_out passes id v words slots got are out whole final found =
      let enough : n ≤ length v.shares =
      omega (arith, ap length are, length-map passes (share_of {Val = Val} {E = E} {g = g})) in
      let t = closes history caller_of n start id v words slots out enough final in
      (t.0, some-injective got (Some t.0) (sym found ∙ t.1), fits_all passes v t.0 are t.2)

  -- a value that is equal to one that fits each pass fits each pass too
  pub fits_value : (passes : List (Pass Val E g)) (x value : Val) → Some x ≡ Some value → FitsAll passes x
      → FitsAll passes value
  fits_value passes x value e f = let same : x ≡ value = cc in subst (FitsAll passes) same f
