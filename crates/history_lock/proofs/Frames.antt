-- What each clause of the rule becomes where one view is replaced.
use Rattle.std.proofs.Common.{◌≡◌, ◌≢◌, ◌⊎◌, ℕ, ◌+◌, ◌%◌, ◌^◌, ◌<◌, ◌≤◌, List, [], ◌∷◌, length, set, refl, sym, ap, ◌∙◌, subst, inl, ⊎_elim, arith, is_some, cond, Option, None}
use mathlib.Core.Logic.{dite}
use mathlib.Core.Option.{some-injective}
use mathlib.Core.List.{IsPrefix}
use native.Mathlib.Decide.{ℕ_discrete}
use Rattle.atomic_table.proofs.Lists.{set_here, set_else}
use Rattle.history_lock.specs.declared.view.Share.{Share}
use Rattle.history_lock.specs.declared.view.View.{View}
use Rattle.history_lock.specs.Entries.{entries_by}
use Rattle.history_lock.specs.Views.{Each, AtLeastOne, HasView, first_share, waiting, share_count}
use Rattle.history_lock.specs.Rule.{TicketsAreInRange, NowIsLongest, IsKeptShare, NumbersAreKept, OneIsServed, IsSpent, SpentAreIdle}
use Rattle.history_lock.proofs.Lists.{within, each_set, each_map, sum_by-set}
use Rattle.history_lock.proofs.Prefixes.{prefix_trans, prefix_length}

module _ {E : Type 0} where
  -- one where the view has a ticket
  abbrev pub has_ticket : View E → ℕ
  has_ticket v = cond (is_some v.ticket) 1 0

  -- how many shares the view has
  abbrev pub shares_of : View E → ℕ
  shares_of v = length v.shares

  -- two views at one index are one view
  pub same_view : (views : List (View E)) (j : ℕ) (v w : View E) → HasView views j v → HasView views j w → v ≡ w
  same_view views j v w a b = some-injective v w (sym a ∙ b)

  -- each view of the new list stands for one of the old
  pub view_before : (R : View E → View E → Type 0) (views : List (View E)) (id : ℕ) (v w : View E) → HasView views id v
      → R v w → ((a : View E) → R a a)
      → (j : ℕ) (a : View E) → HasView (set views id w) j a → (b : View E) × HasView views j b × R b a
  view_before R views id v w at here same = each_set (λ j a. (b : View E) × HasView views j b × R b a) views id w
      (v, at, here) (λ j a ne h. (a, h, same a))

  -- the number of views with a ticket, where one view is replaced
  pub waiting-set : (views : List (View E)) (id : ℕ) (v w : View E) → HasView views id v
      → waiting (set views id w) + has_ticket v ≡ waiting views + has_ticket w
  waiting-set views id v w at = sum_by-set has_ticket views id v w at

  -- where one view is replaced, the number of shares loses those of the old view and gains those of the new one
  pub share_count-set : (views : List (View E)) (id : ℕ) (v w : View E) → HasView views id v
      → share_count (set views id w) + length v.shares ≡ share_count views + length w.shares
  share_count-set views id v w at = sum_by-set shares_of views id v w at

  -- a view keeps its ticket
  pub tickets_stay : (n ticket serving : ℕ) (views : List (View E)) (id : ℕ) (v w : View E) → HasView views id v
      → v.ticket ≡ w.ticket
      → TicketsAreInRange n ticket serving views → TicketsAreInRange n ticket serving (set views id w)
  tickets_stay n ticket serving views id v w at same r =
      let count : waiting (set views id w) ≡ waiting views = let one_if : Option ℕ
      → ℕ = λ t. cond (is_some t) 1 0 in omega (arith, waiting-set views id v w at, ap one_if same) in
      let back = view_before (λ (b a : View E). b.ticket ≡ a.ticket) views id v w at same (λ a. refl) in record {
        difference = r.difference ∙ ap (λ (m : ℕ). (serving + m) % 2 ^ 64) (sym count);
        few = subst (λ (m : ℕ). m ≤ n) (sym count) r.few;
        in_range = λ j a t h is. let b = back j a h in
            subst (λ (m : ℕ). (i : ℕ) × (i < m) × (t ≡ (serving + i) % 2 ^ 64)) (sym count)
            (r.in_range j b.0 t b.1 (b.2 ∙ is));
        differ = λ i j a b t h k is also. let c = back i a h in let d = back j b k in
            r.differ i j c.0 d.0 t c.1 d.1 (c.2 ∙ is) (d.2 ∙ also);
      }

  -- a view keeps its ticket, and is served as before
  pub served_stays : (serving : ℕ) (views : List (View E)) (id : ℕ) (v w : View E) → HasView views id v
      → v.ticket ≡ w.ticket → v.served ≡ w.served
      → OneIsServed serving views → OneIsServed serving (set views id w)
  served_stays serving views id v w at same alike r =
      let back = view_before (λ (b a : View E). (b.ticket ≡ a.ticket) × (b.served ≡ a.served)) views id v w at
      (same, alike) (λ a. (refl, refl)) in record {
        ticket = λ j a h is. let b = back j a h in sym b.2.0 ∙ r.ticket j b.0 b.1 (b.2.1 ∙ is);
        one = λ i j a b h k is also. let c = back i a h in let d = back j b k in
            r.one i j c.0 d.0 c.1 d.1 (c.2.1 ∙ is) (d.2.1 ∙ also);
      }

  -- a view with no share and no ticket is spent
  pub is_spent : (now : List E) (v : View E) → v.shares ≡ [] → v.ticket ≡ None → IsSpent now v
  is_spent now v none idle = record {
    no_ticket = idle;
    none_own = ap (λ (l : List (Share E)). (first_share l).own) none;
    begins_now = subst (λ (l : List (Share E)). IsPrefix (first_share l).seen now) (sym none) (now, refl);
  }

  -- a view that has a share is not spent, and the others stay so, whatever the history comes to
  pub spent_stays : (now now' : List E) (views : List (View E)) (id : ℕ) (w : View E) (y : Share E) → w.shares ≡ y ∷ []
      → SpentAreIdle now views → SpentAreIdle now' (set views id w)
  spent_stays now now' views id w y has r = each_set (λ j a. a.shares ≡ []
      → IsSpent now' a) views id w (λ none. absurd (cc (has, none)))
      (λ j a ne h none. is_spent now' a none (r j a h none).no_ticket)

  -- a pass comes to have this share, and the history grows to now'
  pub seen_grows : (now now' : List E) (views : List (View E)) (id : ℕ) (v w : View E) (x y : Share E)
      → HasView views id v → v.shares ≡ x ∷ [] → w.shares ≡ y ∷ []
      → IsPrefix now now' → length now' < 2 ^ 64 → IsPrefix y.seen now' → w.known ≤ length now'
      → (y.seen ≡ now') ⊎ ((now ≡ now') × (y.seen ≡ x.seen))
      → NowIsLongest now views → NowIsLongest now' (set views id w)
  seen_grows now now' views id v w x y at has has' longer fits begins knows newest r = record {
    fits = fits;
    begin_it = each_set (λ (j : ℕ) (a : View E). Each (λ (z : Share E). IsPrefix z.seen now') a.shares) views id w
        (subst (Each (λ (z : Share E). IsPrefix z.seen now')) (sym has') (begins, tt))
        (λ j a ne h. each_map (λ (z : Share E). IsPrefix z.seen now) (λ (z : Share E). IsPrefix z.seen now') a.shares
        (λ z p. prefix_trans z.seen now now' p longer) (r.begin_it j a h));
    is_seen = ⊎_elim (λ e. here e) (λ (t : (now ≡ now') × (y.seen ≡ x.seen)). dite (ℕ_discrete r.is_seen.0 id)
        (λ e. let u = r.is_seen.1 in let is : u ≡ v =
        same_view views id u v (subst (λ j. HasView views j u) e r.is_seen.2) at in
        let mine : AtLeastOne (λ (z : Share E). z.seen ≡ now) (x ∷ []) =
        subst (AtLeastOne (λ (z : Share E). z.seen ≡ now)) (ap (λ (z : View E). z.shares) is ∙ has) r.is_seen.3 in
        ⊎_elim (λ s. here (t.1 ∙ (s ∙ t.0))) (λ no. absurd no) mine)
        (λ ne. (
          r.is_seen.0,
          r.is_seen.1,
          set_else views id r.is_seen.0 w ne
              ∙ r.is_seen.2,
          subst (λ (l : List E). AtLeastOne (λ (z : Share E). z.seen ≡ l) r.is_seen.1.shares) t.0
              r.is_seen.3,
        ))) newest;
    known = each_set (λ (j : ℕ) (a : View E). a.known ≤ length now') views id w knows
        (λ j a ne h. omega (arith, r.known j a h, prefix_length now now' longer));
  }
    where
      here : y.seen ≡ now' → (j : ℕ) × (a : View E) × HasView (set views id w) j a
          × AtLeastOne (λ (z : Share E). z.seen ≡ now') a.shares
      here e = (
        id,
        w,
        set_here views id w (within views id v at),
        subst (AtLeastOne (λ (z : Share E). z.seen ≡ now'))
            (sym has') (inl e),
      )

  -- a pass keeps its number, its own list is what the new history has of it, and no other number has new entries
  pub numbers_stay : (caller_of : E → ℕ) (n : ℕ) (now now' : List E) (keeper : ℕ → ℕ) (views : List (View E)) (id : ℕ)
      (v w : View E) (x y : Share E)
      → HasView views id v → v.shares ≡ x ∷ [] → w.shares ≡ y ∷ [] → y.number ≡ x.number
      → y.own ≡ entries_by caller_of x.number now'
      → ((k : ℕ) → x.number ≢ k → entries_by caller_of k now' ≡ entries_by caller_of k now)
      → NumbersAreKept caller_of n now keeper views → NumbersAreKept caller_of n now' keeper (set views id w)
  numbers_stay caller_of n now now' keeper views id v w x y at has has' number own rest r =
      let P : ℕ → Share E → Type 0 = IsKeptShare caller_of n now keeper in
      let Q : ℕ → Share E → Type 0 = IsKeptShare caller_of n now' keeper in
      let mine : P id x = (subst (Each (P id)) has (r.own id v at)).0 in record {
        kept = λ k l. let t = r.kept k l in dite (ℕ_discrete (keeper k) id)
            (λ e. let is : t.0 ≡ v = same_view views id t.0 v (subst (λ j. HasView views j t.0) e t.1) at in
            let old : AtLeastOne (λ (z : Share E). z.number ≡ k) (x ∷ []) =
            subst (AtLeastOne (λ (z : Share E). z.number ≡ k)) (ap (λ (z : View E). z.shares) is ∙ has) t.2 in
            let new : AtLeastOne (λ (z : Share E). z.number ≡ k) (y ∷ []) =
            ⊎_elim (λ s. inl (number ∙ s)) (λ no. absurd no) old in (
              w,
              subst (λ j. HasView (set views id w) j w) (sym e) (set_here views id w (within views id v at)),
              subst
                  (AtLeastOne (λ (z : Share E). z.number ≡ k)) (sym has') new,
            ))
            (λ ne. (t.0, set_else views id (keeper k) w ne ∙ t.1, t.2));
        own = each_set (λ (j : ℕ) (a : View E). Each (Q j) a.shares) views id w
            (subst (Each (Q id)) (sym has') (
              (
                subst (λ k. k < n) (sym number) mine.0,
                ap keeper number ∙ mine.1,
                own
                    ∙ ap (λ k. entries_by caller_of k now') (sym number),
              ),
              tt,
            ))
            (λ j a ne h. each_map (P j) (Q j) a.shares
            (λ z p. (p.0, p.1, p.2 ∙ sym (rest z.number (λ e. ne (sym p.1 ∙ (ap keeper (sym e) ∙ mine.1))))))
            (r.own j a h));
        once = omega (arith, share_count-set views id v w at, ap length has, ap length has', r.once);
      }
