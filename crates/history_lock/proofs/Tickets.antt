-- Tickets that are drawn and spent, and views that are added.
use Rattle.std.proofs.Common.{◌≡◌, ◌≢◌, ◌⊎◌, ℕ, zero, suc, ◌+◌, ◌%◌, ◌^◌, ◌<◌, ◌≤◌, true, false, List, [], ◌∷◌, ◌++◌, length, set, refl, sym, ap, ◌∙◌, subst, inl, inr, ⊎_elim, arith, is_some, cond, Option, Some, None}
use Rattle.std.proofs.lemmas.List.Sums.{sum_by_push}
use mathlib.Core.Logic.{dite}
use mathlib.Core.Option.{some}
use mathlib.Core.Option as maybe
use native.Mathlib.Decide.{ℕ_discrete}
use Rattle.atomic_table.proofs.Lists.{set_else, at_longer, one_turn}
use Rattle.history_lock.specs.declared.view.Share.{Share}
use Rattle.history_lock.specs.declared.view.View.{View}
use Rattle.history_lock.specs.Limits.{most_passes}
use Rattle.history_lock.specs.Views.{Each, HasView, waiting, share_count}
use Rattle.history_lock.specs.Rule.{TicketsAreInRange, OneIsServed, SlotIsRight, SpentAreIdle}
use Rattle.history_lock.proofs.Lists.{each_set, at_push, sum_by_lt}
use Rattle.history_lock.proofs.Frames.{has_ticket, shares_of, same_view, waiting-set, is_spent}

-- one more after a remainder
pub mod-step : (a : ℕ) → (a % 2 ^ 64 + 1) % 2 ^ 64 ≡ (a + 1) % 2 ^ 64
mod-step a = omega arith

-- a range that begins one later
pub mod-shift : (s i : ℕ) → (s + (i + 1)) % 2 ^ 64 ≡ ((s + 1) % 2 ^ 64 + i) % 2 ^ 64
mod-shift s i = omega arith

-- two numbers of a short range are apart
pub places_differ : (s i k : ℕ) → i < k → k ≤ most_passes → (s + i) % 2 ^ 64 ≡ (s + k) % 2 ^ 64 → ⊥
places_differ s i k lt few e = let same : s + i ≡ s + k =
    one_turn (s + i) (s + k) 18446744073709551616 (omega arith) (omega arith) e in omega arith

module _ {E : Type 0} where
  -- more shares than views with a ticket, where some view has a share and no ticket
  pub waiting_lt : (n : ℕ) (now : List E) (views : List (View E)) (id : ℕ) (v : View E) (x : Share E) → HasView views id v
      → v.shares ≡ x ∷ [] → v.ticket ≡ None
      → SpentAreIdle now views → share_count views ≡ n → waiting views < n
  waiting_lt n now views id v x at has idle spent once =
      let one_if : Option ℕ → ℕ = λ t. cond (is_some t) 1 0 in
      let none : has_ticket v ≡ 0 = ap one_if idle in let one : length v.shares ≡ 1 = ap length has in
      let lt : waiting views < share_count views =
      sum_by_lt has_ticket shares_of views id v (λ j a h. bounded a a.shares refl (λ none. (spent j a h none).no_ticket)) at (omega arith) in
      omega arith
    where
      bounded : (a : View E) (l : List (Share E)) → a.shares ≡ l → (a.shares ≡ [] → a.ticket ≡ None)
          → has_ticket a ≤ length a.shares
      bounded a [] e idle' = let one_if : Option ℕ → ℕ = λ t. cond (is_some t) 1 0 in let none : has_ticket a ≡ 0 =
          ap one_if (idle' e) in omega arith
      bounded a (z ∷ zs) e idle' = let some_there : length a.shares ≡ length zs + 1 = ap length e
          ∙ omega arith in let small : has_ticket a ≤ 1 =
          elim (is_some a.ticket) as (λ b. cond b 1 0 ≤ 1) [ true ↦ omega arith | false ↦ omega arith ] in omega arith

  -- a view draws the next ticket
  pub tickets_drawn : (n ticket serving found : ℕ) (views : List (View E)) (id : ℕ) (v w : View E) → HasView views id v
      → v.ticket ≡ None → w.ticket ≡ Some found → found ≡ ticket
      → n ≤ most_passes → waiting views < n → TicketsAreInRange n ticket serving views
      → TicketsAreInRange n ((found + 1) % 2 ^ 64) serving (set views id w)
  tickets_drawn n ticket serving found views id v w at idle drew is limit room r =
      let one_if : Option ℕ → ℕ = λ t. cond (is_some t) 1 0 in
      let m : ℕ = waiting views in
      let none : has_ticket v ≡ 0 = ap one_if idle in let one : has_ticket w ≡ 1 = ap one_if drew in
      let count : waiting (set views id w) ≡ m + 1 = omega (arith, waiting-set views id v w at) in
      let now : found ≡ (serving + m) % 2 ^ 64 = is ∙ r.difference in
      let InRange : ℕ → Type 0 = λ t. (i : ℕ) × (i < waiting (set views id w)) × (t ≡ (serving + i) % 2 ^ 64) in
      let earlier : (j : ℕ) (a : View E) (t : ℕ) → HasView views j a → a.ticket ≡ Some t → t ≢ found = λ j a t h has e.
      let p = r.in_range j a t h has in places_differ serving p.0 m p.1 (omega (arith, room, limit)) (sym p.2
      ∙ (e ∙ now)) in
      record {
        difference = ap (λ k. (k + 1) % 2 ^ 64) now
            ∙ (mod-step (serving + m)
            ∙ ap (λ k. k % 2 ^ 64) (let e : serving + m + 1 ≡ serving + waiting (set views id w) = omega arith in e));
        few = omega arith;
        in_range = λ j a t h has. each_set (λ j a. (t : ℕ) → a.ticket ≡ Some t → InRange t) views id w
            (λ t has. (m, omega arith, let e : t ≡ found = cc (has, drew) in e ∙ now))
            (λ j a ne h t has. let p = r.in_range j a t h has in (p.0, omega (arith, p.1), p.2)) j a h t has;
        differ = λ i j a b t h k has also.
            let P : ℕ → View E → Type 0 = λ i a. a.ticket ≡ Some t → ((i ≡ id) × (t ≡ found)) ⊎ HasView views i a in
            let side : (i : ℕ) (a : View E) → HasView (set views id w) i a
            → P i a = each_set P views id w (λ has. inl (refl, cc (has, drew))) (λ i a ne h has. inr h) in
            ⊎_elim (λ (p : (i ≡ id) × (t ≡ found)). ⊎_elim (λ (q : (j ≡ id) × (t ≡ found)). p.0 ∙ sym q.0)
            (λ q. absurd (earlier j b t q also p.1)) (side j b k also))
            (λ p. ⊎_elim (λ (q : (j ≡ id) × (t ≡ found)). absurd (earlier i a t p has q.1))
            (λ q. r.differ i j a b t p q has also) (side j b k also)) (side i a h has);
      }

  -- the view that is served spends its ticket
  pub tickets_spent : (n ticket serving : ℕ) (views : List (View E)) (id : ℕ) (v w : View E) → HasView views id v
      → v.ticket ≡ Some serving → w.ticket ≡ None → serving < 2 ^ 64
      → TicketsAreInRange n ticket serving views → TicketsAreInRange n ticket ((serving + 1) % 2 ^ 64) (set views id w)
  tickets_spent n ticket serving views id v w at has idle fits r =
      let one_if : Option ℕ → ℕ = λ t. cond (is_some t) 1 0 in
      let m : ℕ = waiting (set views id w) in
      let one : has_ticket v ≡ 1 = ap one_if has in let none : has_ticket w ≡ 0 = ap one_if idle in
      let count : waiting views ≡ m + 1 = omega (arith, waiting-set views id v w at) in
      let P : ℕ → View E → Type 0 = λ j a. (t : ℕ) → a.ticket ≡ Some t → (j ≢ id) × HasView views j a in
      let old : (j : ℕ) (a : View E) → HasView (set views id w) j a
      → P j a = each_set P views id w (λ t has'. absurd (cc (has', idle))) (λ j a ne h t has'. (ne, h)) in
      record {
        difference = r.difference ∙ (ap (λ k. (serving + k) % 2 ^ 64) count ∙ mod-shift serving m);
        few = let le = r.few in omega arith;
        in_range = λ j a t h is. let o = old j a h t is in let p = r.in_range j a t o.1 is in
            later j a t p.0 p.1 p.2 o.0 o.1 is count;
        differ = λ i j a b t h k is also. r.differ i j a b t (old i a h t is).1 (old j b k t also).1 is also;
      }
    where
      later : (j : ℕ) (a : View E) (t i : ℕ) → i < waiting views → t ≡ (serving + i) % 2 ^ 64 → j ≢ id
          → HasView views j a → a.ticket ≡ Some t → waiting views ≡ waiting (set views id w) + 1
          → (k : ℕ) × (k < waiting (set views id w)) × (t ≡ ((serving + 1) % 2 ^ 64 + k) % 2 ^ 64)
      later j a t zero lt e ne h is count = let here : t ≡ serving = e
          ∙ omega arith in absurd (ne (r.differ j id a v serving h at (is ∙ ap (λ (k : ℕ). Some k) here) has))
      later j a t (suc i) lt e ne h is count = (
        i,
        omega arith,
        e ∙ (ap (λ k. (serving + k) % 2 ^ 64) (let g : suc i ≡ i + 1 = omega arith in g)
            ∙ mod-shift serving i),
      )

  -- a view with no ticket is added
  pub waiting_push : (views : List (View E)) (w : View E) → w.ticket ≡ None → waiting (views ++ w ∷ []) ≡ waiting views
  waiting_push views w idle = let one_if : Option ℕ → ℕ = λ t. cond (is_some t) 1 0 in let none : has_ticket w ≡ 0 =
      ap one_if idle in omega (arith, sum_by_push has_ticket views w)

  -- the clause of the tickets still holds once a view with no ticket is added
  pub tickets_push : (n ticket serving : ℕ) (views : List (View E)) (w : View E) → w.ticket ≡ None
      → TicketsAreInRange n ticket serving views → TicketsAreInRange n ticket serving (views ++ w ∷ [])
  tickets_push n ticket serving views w idle r =
      let count = waiting_push views w idle in
      let old : (j : ℕ) (a : View E) (t : ℕ) → HasView (views ++ w ∷ []) j a → a.ticket ≡ Some t
      → HasView views j a = λ j a t h is.
      ⊎_elim (λ o. o) (λ (q : (j ≡ length views) × (w ≡ a)). absurd (cc (is, idle, q.1))) (at_push views w a j h) in
      record {
        difference = r.difference ∙ ap (λ (m : ℕ). (serving + m) % 2 ^ 64) (sym count);
        few = subst (λ (m : ℕ). m ≤ n) (sym count) r.few;
        in_range = λ j a t h is. subst (λ (m : ℕ). (i : ℕ) × (i < m) × (t ≡ (serving + i) % 2 ^ 64)) (sym count)
            (r.in_range j a t (old j a t h is) is);
        differ = λ i j a b t h k is also. r.differ i j a b t (old i a t h is) (old j b t k also) is also;
      }

  -- still at most one view is served, and has the ticket that is, once a view that is not served is added
  pub served_push : (serving : ℕ) (views : List (View E)) (w : View E) → w.served ≡ false → OneIsServed serving views
      → OneIsServed serving (views ++ w ∷ [])
  served_push serving views w out r =
      let old : (j : ℕ) (a : View E) → HasView (views ++ w ∷ []) j a → a.served ≡ true → HasView views j a = λ j a h is.
      ⊎_elim (λ o. o) (λ (q : (j ≡ length views) × (w ≡ a)). absurd (cc (is, out, q.1))) (at_push views w a j h) in
      record {
        ticket = λ j a h is. r.ticket j a (old j a h is) is;
        one = λ i j a b h k is also. r.one i j a b (old i a h is) (old j b k also) is also;
      }

  -- each view with no share is still spent once a view with no ticket is added
  pub spent_push : (now : List E) (views : List (View E)) (w : View E) → w.ticket ≡ None → SpentAreIdle now views
      → SpentAreIdle now (views ++ w ∷ [])
  spent_push now views w idle r j a h none =
      ⊎_elim (λ o. r j a o none) (λ (q : (j ≡ length views) × (w ≡ a)). is_spent now a none
      (ap (λ (z : View E). z.ticket) (sym q.1) ∙ idle))
      (at_push views w a j h)

  module _ {Val : Type 0} (history : Val → List E) (now : List E) (homes : List (maybe.Option (Option Val))) where
    -- the clause of the slot still holds once a view that is not served is added
    pub slot_push : (views : List (View E)) (w : View E) → w.served ≡ false → SlotIsRight history now homes views
        → SlotIsRight history now homes (views ++ w ∷ [])
    slot_push views w out r = record {
      home = λ none. r.home (λ j a h. none j a (at_longer views (w ∷ []) j a h));
      out = λ j a h is. ⊎_elim (λ o. r.out j a o is) (λ (q : (j ≡ length views) × (w ≡ a)). absurd (cc (is, out, q.1)))
          (at_push views w a j h);
    }

    -- a view that is not served is replaced by another such
    pub slot_stays : (views : List (View E)) (id : ℕ) (v w : View E) → HasView views id v → v.served ≡ false
        → w.served ≡ false → SlotIsRight history now homes views → SlotIsRight history now homes (set views id w)
    slot_stays views id v w at out out' r = record {
      home = λ none. r.home
          (λ j a h. dite (ℕ_discrete j id)
          (λ e. ap (λ (z : View E). z.served) (same_view views id a v (subst (λ k. HasView views k a) e h) at) ∙ out)
          (λ ne. none j a (set_else views id j w ne ∙ h)));
      out = each_set (λ (j : ℕ) (a : View E). a.served ≡ true
          → (homes ≡ maybe.none ∷ []) × Each (λ (x : Share E). x.seen ≡ now) a.shares) views id w
          (λ is. absurd (cc (is, out')))
          (λ j a ne h. r.out j a h);
    }
