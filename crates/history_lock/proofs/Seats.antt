-- How passes are made, split off, taken in and counted keeps the rule.
use Rattle.std.proofs.Common.{◌≡◌, ◌≢◌, ℕ, zero, suc, ◌+◌, ◌%◌, ◌^◌, ◌<◌, ◌≤◌, false, List, [], ◌∷◌, ◌++◌, length, set, get_or, refl, sym, ap, ◌∙◌, subst, inl, inr, ⊎_elim, arith, Option, Some, None, length-append}
use Rattle.std.proofs.lemmas.List.Sums.{sum_by_push, sum_by-cons}
use mathlib.Core.Logic.{dite}
use mathlib.Core.Option.{none, some-injective, some-ne-none}
use mathlib.Core.List.{IsPrefix}
use native.Mathlib.Decide.{ℕ_discrete}
use Rattle.atomic_table.specs.Table.{State, step, keeps, Allows, Enters, Splits, Joins, opening}
use Rattle.atomic_table.proofs.Lists.{set_here, set_else, set_again, at_longer, at_last}
use Rattle.history_lock.specs.declared.view.Share.{Share}
use Rattle.history_lock.specs.declared.view.View.{View}
use Rattle.history_lock.specs.Limits.{first_bell, most_passes, opener}
use Rattle.history_lock.specs.Entries.{entries_by}
use Rattle.history_lock.specs.Views.{Each, AtLeastOne, HasView, share_count, view_of, spent_view, shares_from, opening_view, further_shares, only_first}
use Rattle.history_lock.specs.Rule.{IsKept, IsKeptShare, NowIsLongest, NumbersAreKept, IsSpent}
use Rattle.history_lock.specs.Steps.{arrived, rang}
use Rattle.history_lock.proofs.Lists.{within, each_set, each_append, each_map, at_push, least_append_left, least_append_right, each_both, put, put_here, put_else, rung, no_rings, turn, turn_here, turn_else}
use Rattle.history_lock.proofs.Prefixes.{prefix_self, entries_by_other, not_grown}
use Rattle.history_lock.proofs.Frames.{shares_of, same_view, tickets_stay, served_stays, share_count-set, is_spent}
use Rattle.history_lock.proofs.Tickets.{tickets_push, served_push, spent_push, slot_push, slot_stays}

module _ {E : Type 0} where
  -- an index that is not id is as it was
  same_else : (views : List (View E)) (id j : ℕ) (w a : View E) → j ≢ id → HasView views j a
      → HasView (set views id w) j a
  same_else views id j w a ne h = set_else views id j w ne ∙ h

  -- a view with no share is added
  pub seen_push : (now : List E) (views : List (View E)) (w : View E)
      → Each (λ (x : Share E). IsPrefix x.seen now) w.shares → w.known ≤ length now → NowIsLongest now views
      → NowIsLongest now (views ++ w ∷ [])
  seen_push now views w begin knows r = record {
    fits = r.fits;
    begin_it = λ j a h. ⊎_elim (λ o. r.begin_it j a o)
        (λ (q : (j ≡ length views) × (w ≡ a)). subst
        (λ (z : View E). Each (λ (x : Share E). IsPrefix x.seen now) z.shares) q.1 begin) (at_push views w a j h);
    is_seen = (r.is_seen.0, r.is_seen.1, at_longer views (w ∷ []) r.is_seen.0 r.is_seen.1 r.is_seen.2, r.is_seen.3);
    known = λ j a h. ⊎_elim (λ o. r.known j a o)
        (λ (q : (j ≡ length views) × (w ≡ a)). subst (λ (z : View E). z.known ≤ length now) q.1 knows)
        (at_push views w a j h);
  }

  numbers_push : (caller_of : E → ℕ) (n : ℕ) (now : List E) (keeper : ℕ → ℕ) (views : List (View E))
      → NumbersAreKept caller_of n now keeper views → NumbersAreKept caller_of n now keeper (views ++ spent_view ∷ [])
  numbers_push caller_of n now keeper views r =
      let P : ℕ → Share E → Type 0 = IsKeptShare caller_of n now keeper in record {
        kept = λ k l. let t = r.kept k l in (t.0, at_longer views (spent_view ∷ []) (keeper k) t.0 t.1, t.2);
        own = λ j a h. ⊎_elim (λ o. r.own j a o)
            (λ (q : (j ≡ length views) × (spent_view ≡ a)). subst (λ (z : View E). Each (P j) z.shares) q.1 tt)
            (at_push views spent_view a j h);
        once = sum_by_push shares_of views spent_view
            ∙ (let e : share_count views + 0 ≡ share_count views = omega arith in e ∙ r.once);
      }

module _ {Val E : Type 0} (history : Val → List E) (caller_of : E → ℕ) (n : ℕ) (start : List E) where
  abbrev St : Type 0
  St = State (Option Val) (View E)

  abbrev Rule : St → Type 0
  Rule = IsKept history caller_of n start

  -- a new seat may come at any time with a view that has no share, and the rule is kept
  pub arrives : (slots : ℕ) (v : View E)
      → Enters Rule slots 3 (λ k w. arrived {Val = Val} (step slots 3 0 0 none) (v, []) k (w, []))
  arrives slots v s r _ _ = (
    spent_view,
    record {
      now = r.now;
      ticket = r.ticket;
      serving = r.serving;
      bells = r.bells;
      keeper = r.keeper;
      limit = r.limit;
      grown = r.grown;
      words = r.words;
      tickets = tickets_push n r.ticket r.serving s.views spent_view refl r.tickets;
      longest = seen_push r.now s.views spent_view tt (omega arith) r.longest;
      numbers = numbers_push caller_of n r.now r.keeper s.views r.numbers;
      served = served_push r.serving s.views spent_view refl r.served;
      slot = slot_push history r.now s.homes s.views spent_view refl r.slot;
      spent = spent_push r.now s.views spent_view refl r.spent;
    },
    refl,
  )

  -- any seat may ring a bell, which changes no view, and the rule is kept
  pub rings : (slots id i : ℕ) (v : View E) (c : List (ℕ × Option Val)) → first_bell ≤ i
      → Allows Rule slots id (v, c) i (λ k. (k + 1) % 2 ^ 64) (rang (step slots i 1 0 none) (v, c))
  rings slots id i v c is_bell s r _ at _ =
      let next : ℕ = (get_or s.words i 0 + 1) % 2 ^ 64 in
      let left = rung s.words r.ticket r.serving (length r.now) next i r.bells r.words is_bell in (
        v,
        keeps,
        tt,
        subst (λ (vs : List (View E)). Rule record { words = set s.words i next; homes = s.homes; views = vs })
            (sym (set_again s.views id v at)) record {
              now = r.now;
              ticket = r.ticket;
              serving = r.serving;
              bells = left.0;
              keeper = r.keeper;
              limit = r.limit;
              grown = r.grown;
              words = left.1;
              tickets = r.tickets;
              longest = r.longest;
              numbers = r.numbers;
              served = r.served;
              slot = r.slot;
              spent = r.spent;
            },
        refl,
      )

  -- a share that stands in the j-th view
  abbrev Owned : List E → (ℕ → ℕ) → ℕ → Share E → Type 0
  Owned = IsKeptShare caller_of n

  -- a pass with the first share is split off
  pub splits : (id : ℕ) (v : View E) (x : Share E) (rest : List (Share E)) → v.shares ≡ x ∷ rest
      → Each (λ (z : Share E). x.number ≢ z.number) rest → v.ticket ≡ None → v.served ≡ false
      → Splits Rule id v (record v { shares = further_shares v.shares }) (view_of (only_first v.shares))
  splits id v x rest has apart idle out s r at =
      let left : View E = record v { shares = rest } in
      let given : View E = view_of (x ∷ []) in
      let kept_views : List (View E) = set s.views id left in
      let keeper' : ℕ → ℕ = put r.keeper x.number (length kept_views) in
      let Begins : Share E → Type 0 = λ z. IsPrefix z.seen r.now in
      let IsNow : Share E → Type 0 = λ z. z.seen ≡ r.now in
      let begin : Each Begins (x ∷ rest) = subst (Each Begins) has (r.longest.begin_it id v at) in
      let mine : Each (Owned r.now r.keeper id) (x ∷ rest) =
      subst (Each (Owned r.now r.keeper id)) has (r.numbers.own id v at) in
      let keeper_first = put_here r.keeper x.number (length kept_views) in
      let keeper_rest = put_else r.keeper x.number (length kept_views) in
      subst (λ (l : List (Share E)). Rule record {
        words = s.words;
        homes = s.homes;
        views =
            set s.views id (record v { shares = further_shares l }) ++ view_of (only_first l) ∷ [];
      }) (sym has) record {
        now = r.now;
        ticket = r.ticket;
        serving = r.serving;
        bells = r.bells;
        keeper = keeper';
        limit = r.limit;
        grown = r.grown;
        words = r.words;
        tickets = tickets_push n r.ticket r.serving kept_views given refl
            (tickets_stay n r.ticket r.serving s.views id v left at refl r.tickets);
        longest = record {
          fits = r.longest.fits;
          begin_it = λ j a h. ⊎_elim
              (λ o. each_set (λ (j : ℕ) (a : View E). Each Begins a.shares) s.views id left begin.1
              (λ j a ne h. r.longest.begin_it j a h) j a o)
              (λ (q : (j ≡ length kept_views) × (given ≡ a)). subst (λ (z : View E). Each Begins z.shares) q.1
              (begin.0, tt)) (at_push kept_views given a j h);
          is_seen = dite (ℕ_discrete r.longest.is_seen.0 id)
              (λ e. ⊎_elim (λ h. (length kept_views, given, at_last kept_views given (length kept_views) refl, inl h))
              (λ h. (
                id,
                left,
                at_longer kept_views (given ∷ []) id left
                    (set_here s.views id left (within s.views id v at)),
                h,
              ))
              (subst (AtLeastOne IsNow)
              (ap (λ (z : View E). z.shares)
              (same_view s.views id r.longest.is_seen.1 v
              (subst (λ k. HasView s.views k r.longest.is_seen.1) e r.longest.is_seen.2) at)
              ∙ has) r.longest.is_seen.3))
              (λ ne. (
                r.longest.is_seen.0,
                r.longest.is_seen.1,
                at_longer kept_views
                    (given ∷ []) r.longest.is_seen.0 r.longest.is_seen.1
                    (same_else s.views id r.longest.is_seen.0 left r.longest.is_seen.1 ne r.longest.is_seen.2),
                r.longest.is_seen.3,
              ));
          known = λ j a h. ⊎_elim
              (λ o. each_set (λ (j : ℕ) (a : View E). a.known ≤ length r.now) s.views id left (r.longest.known id v at)
              (λ j a ne h. r.longest.known j a h) j a o)
              (λ (q : (j ≡ length kept_views) × (given ≡ a)). subst (λ (z : View E). z.known ≤ length r.now) q.1
              (omega arith)) (at_push kept_views given a j h);
        };
        numbers = record {
          kept = λ k l. let t = r.numbers.kept k l in dite (ℕ_discrete k x.number)
              (λ e. (
                given,
                subst (λ i. HasView (kept_views ++ given ∷ []) i given) (sym (keeper_first k e))
                    (at_last kept_views given (length kept_views) refl),
                inl (sym e),
              ))
              (λ ne. dite (ℕ_discrete (r.keeper k) id)
              (λ e. (
                left,
                subst (λ i. HasView (kept_views ++ given ∷ []) i left) (sym (keeper_rest k ne ∙ e))
                    (at_longer kept_views (given ∷ []) id left (set_here s.views id left (within s.views id v at))),
                ⊎_elim (λ h. absurd (ne (sym h))) (λ h. h)
                    (subst (AtLeastOne (λ (z : Share E). z.number ≡ k))
                    (ap (λ (z : View E). z.shares)
                    (same_view s.views id t.0 v (subst (λ i. HasView s.views i t.0) e t.1) at) ∙ has) t.2),
              ))
              (λ other. (
                t.0,
                subst (λ i. HasView (kept_views ++ given ∷ []) i t.0) (sym (keeper_rest k ne))
                    (at_longer kept_views (given ∷ []) (r.keeper k) t.0
                    (same_else s.views id (r.keeper k) left t.0 other t.1)),
                t.2,
              )));
          own = λ j a h. ⊎_elim
              (λ o. each_set (λ (j : ℕ) (a : View E). Each (Owned r.now keeper' j) a.shares) s.views id left
              (each_both (λ (z : Share E). x.number ≢ z.number) (Owned r.now r.keeper id) (Owned r.now keeper' id) rest
              (λ z ne p. (p.0, keeper_rest z.number (λ e. ne (sym e)) ∙ p.1, p.2)) apart mine.1)
              (λ j a ne h. each_map (Owned r.now r.keeper j) (Owned r.now keeper' j) a.shares
              (λ z p. (p.0, keeper_rest z.number (λ e. ne (sym p.1 ∙ (ap r.keeper e ∙ mine.0.1))) ∙ p.1, p.2))
              (r.numbers.own j a h)) j a o)
              (λ (q : (j ≡ length kept_views) × (given ≡ a)). subst
              (λ (t : ℕ × View E). Each (Owned r.now keeper' t.0) t.1.shares) (λ i. (sym q.0 i, q.1 i))
              ((mine.0.0, keeper_first x.number refl, mine.0.2), tt))
              (at_push kept_views given a j h);
          once = omega (
            arith,
            sum_by_push shares_of kept_views given,
            share_count-set s.views id v left at,
            ap length
                has,
            r.numbers.once,
          );
        };
        served = served_push r.serving kept_views given refl
            (served_stays r.serving s.views id v left at refl refl r.served);
        slot = slot_push history r.now s.homes kept_views given refl
            (slot_stays history r.now s.homes s.views id v left at out out r.slot);
        spent = spent_push r.now kept_views given refl
            (each_set (λ (j : ℕ) (a : View E). a.shares ≡ [] → IsSpent r.now a) s.views id left
            (λ none. is_spent r.now left none idle)
            (λ j a ne h. r.spent j a h));
      }

  -- a pass at rest is taken in
  pub joins : (id : ℕ) (v : View E) (other : ℕ) (w : View E) → v.ticket ≡ None → v.served ≡ false → w.ticket ≡ None
      → w.served ≡ false
      → Joins Rule id v other w (record v { shares = w.shares ++ v.shares }) spent_view
  joins id v other w idle out idle' out' s r at apart there =
      let both : View E = record v { shares = w.shares ++ v.shares } in
      let views' : List (View E) = set s.views id both in
      let was : HasView s.views other w = sym (set_else s.views id other both apart) ∙ there in
      let keeper' : ℕ → ℕ = turn r.keeper other id in
      let Begins : Share E → Type 0 = λ z. IsPrefix z.seen r.now in
      let IsNow : Share E → Type 0 = λ z. z.seen ≡ r.now in
      let holds_both : HasView (set views' other spent_view) id both =
      same_else views' other id spent_view both (λ e. apart (sym e))
      (set_here s.views id both (within s.views id v at)) in
      let unchanged : (j : ℕ) (a : View E) → j ≢ id → j ≢ other → HasView s.views j a
      → HasView (set views' other spent_view) j a =
      λ j a ne ne' h. same_else views' other j spent_view a ne' (same_else s.views id j both a ne h) in
      record {
        now = r.now;
        ticket = r.ticket;
        serving = r.serving;
        bells = r.bells;
        keeper = keeper';
        limit = r.limit;
        grown = r.grown;
        words = r.words;
        tickets = tickets_stay n r.ticket r.serving views' other w spent_view there idle'
            (tickets_stay n r.ticket r.serving s.views id v both at refl r.tickets);
        longest = record {
          fits = r.longest.fits;
          begin_it = each_set (λ (j : ℕ) (a : View E). Each Begins a.shares) views' other spent_view tt
              (λ j a ne h. each_set (λ (j : ℕ) (a : View E). Each Begins a.shares) s.views id both
              (each_append Begins w.shares v.shares (r.longest.begin_it other w was) (r.longest.begin_it id v at))
              (λ j a ne h. r.longest.begin_it j a h) j a h);
          is_seen = let j = r.longest.is_seen.0 in let a = r.longest.is_seen.1 in dite (ℕ_discrete j id)
              (λ e. (
                id,
                both,
                holds_both,
                least_append_right IsNow w.shares v.shares
                    (subst (λ (z : View E). AtLeastOne IsNow z.shares)
                    (same_view s.views id a v (subst (λ k. HasView s.views k a) e r.longest.is_seen.2) at)
                    r.longest.is_seen.3),
              ))
              (λ ne. dite (ℕ_discrete j other)
              (λ e. (
                id,
                both,
                holds_both,
                least_append_left IsNow w.shares v.shares
                    (subst (λ (z : View E). AtLeastOne IsNow z.shares)
                    (same_view s.views other a w (subst (λ k. HasView s.views k a) e r.longest.is_seen.2) was)
                    r.longest.is_seen.3),
              ))
              (λ ne'. (j, a, unchanged j a ne ne' r.longest.is_seen.2, r.longest.is_seen.3)));
          known = each_set (λ (j : ℕ) (a : View E). a.known ≤ length r.now) views' other spent_view (omega arith)
              (λ j a ne h. each_set (λ (j : ℕ) (a : View E). a.known ≤ length r.now) s.views id both
              (r.longest.known id v at) (λ j a ne h. r.longest.known j a h) j a h);
        };
        numbers = record {
          kept = λ k l. let t = r.numbers.kept k l in let Is : Share E
              → Type 0 = λ z. z.number ≡ k in dite (ℕ_discrete (r.keeper k) other)
              (λ e. (
                both,
                subst (λ i. HasView (set views' other spent_view) i both)
                    (sym (turn_here r.keeper other id k e)) holds_both,
                least_append_left Is w.shares v.shares
                    (subst (λ (z : View E). AtLeastOne Is z.shares)
                    (same_view s.views other t.0 w (subst (λ i. HasView s.views i t.0) e t.1) was) t.2),
              ))
              (λ ne'. dite (ℕ_discrete (r.keeper k) id)
              (λ e. (
                both,
                subst (λ i. HasView (set views' other spent_view) i both)
                    (sym (turn_else r.keeper other id k ne' ∙ e)) holds_both,
                least_append_right Is w.shares v.shares
                    (subst (λ (z : View E). AtLeastOne Is z.shares)
                    (same_view s.views id t.0 v (subst (λ i. HasView s.views i t.0) e t.1) at) t.2),
              ))
              (λ ne. (
                t.0,
                subst (λ i. HasView (set views' other spent_view) i t.0)
                    (sym (turn_else r.keeper other id k ne')) (unchanged (r.keeper k) t.0 ne ne' t.1),
                t.2,
              )));
          own = let K : ℕ → View E → Type 0 = λ j a. Each (Owned r.now keeper' j) a.shares in
              each_set K views' other spent_view tt
              (λ j a ne' h. each_set (λ (j : ℕ) (a : View E). j ≢ other → K j a) s.views id both
              (λ _. each_append (Owned r.now keeper' id) w.shares v.shares
              (each_map (Owned r.now r.keeper other) (Owned r.now keeper' id) w.shares
              (λ z p. (p.0, turn_here r.keeper other id z.number p.1, p.2)) (r.numbers.own other w was))
              (each_map (Owned r.now r.keeper id) (Owned r.now keeper' id) v.shares
              (λ z p. (p.0, turn_else r.keeper other id z.number (λ e. apart (sym e ∙ p.1)) ∙ p.1, p.2))
              (r.numbers.own id v at)))
              (λ j a ne h ne''. each_map (Owned r.now r.keeper j) (Owned r.now keeper' j) a.shares
              (λ z p. (p.0, turn_else r.keeper other id z.number (λ e. ne'' (sym p.1 ∙ e)) ∙ p.1, p.2))
              (r.numbers.own j a h)) j a h ne');
          once = omega (
            arith,
            share_count-set views' other w spent_view there,
            share_count-set s.views id v both at,
            length-append w.shares v.shares,
            r.numbers.once,
          );
        };
        served = served_stays r.serving views' other w spent_view there idle' out'
            (served_stays r.serving s.views id v both at refl refl r.served);
        slot = slot_stays history r.now s.homes views' other w spent_view there out' refl
            (slot_stays history r.now s.homes s.views id v both at out out r.slot);
        spent = each_set (λ (j : ℕ) (a : View E). a.shares ≡ [] → IsSpent r.now a) views' other spent_view
            (λ none. is_spent r.now spent_view none refl)
            (λ j a ne h. each_set (λ (j : ℕ) (a : View E). a.shares ≡ [] → IsSpent r.now a) s.views id both
            (λ none. is_spent r.now both none idle)
            (λ j a ne h. r.spent j a h) j a h);
      }

  -- each share has its number, and all of them are those from k on
  pub opens : (count : ℕ) (val : Val) → 0 < n → n ≤ most_passes → history val ≡ start
      → count ≡ length start
      → count < 2 ^ 64 → Each (λ e. caller_of e ≡ opener) start
      → Rule (opening (0 ∷ 0 ∷ count ∷ no_rings) (Some val ∷ []) (opening_view n start))
  opens count val some_pass limit is counts fits theirs = record {
    now = start;
    ticket = 0;
    serving = 0;
    bells = no_rings;
    keeper = λ _. 0;
    limit = limit;
    grown = not_grown caller_of n start;
    words = ap (λ k. 0 ∷ 0 ∷ k ∷ no_rings) counts;
    tickets = record {
      difference = refl;
      few = omega arith;
      in_range = λ j a t h has. absurd (cc (has, (only j a h).1));
      differ = λ i j a b t h k has also. (only i a h).0 ∙ sym (only j b k).0;
    };
    longest = record {
      fits = omega arith;
      begin_it = λ j a h. subst (λ (z : View E). Each (λ (x : Share E). IsPrefix x.seen start) z.shares) (only j a h).3
          (all_begin n 0);
      is_seen = (0, opening_view n start, refl, some_seen n some_pass);
      known = λ j a h. subst (λ (z : View E). z.known ≤ length start) (only j a h).3 (omega arith);
    };
    numbers = record {
      kept = λ k l. (opening_view n start, refl, has_number n 0 k (omega arith) (omega arith));
      own = λ j a h. subst (λ (t : ℕ × View E). Each (Owned start (λ _. 0) t.0) t.1.shares)
          (λ i. (sym (only j a h).0 i, (only j a h).3 i)) (all_owned n 0 (omega arith));
      once = sum_by_one ∙ length-shares_from n 0;
    };
    served = record {
      ticket = λ j a h is'. absurd (cc (is', (only j a h).2));
      one = λ i j a b h k is' also. absurd (cc (is', (only i a h).2));
    };
    slot = record {
      home = λ _. (val, refl, is);
      out = λ j a h is'. absurd (cc (is', (only j a h).2));
    };
    spent = λ j a h none. is_spent start a none (only j a h).1;
  }
    where
      first : View E
      first = opening_view n start

      only : (j : ℕ) (a : View E) → HasView (opening_view n start ∷ []) j a
          → (j ≡ 0) × (a.ticket ≡ None) × (a.served ≡ false) × (opening_view n start ≡ a)
      only zero a h = let e : opening_view n start ≡ a = some-injective (opening_view n start) a h in
          (refl, ap (λ (z : View E). z.ticket) (sym e), ap (λ (z : View E). z.served) (sym e), e)
      only (suc j) a h = absurd (some-ne-none a (sym h))

      all_begin : (m k : ℕ) → Each (λ (x : Share E). IsPrefix x.seen start) (shares_from k m start)
      all_begin zero k = tt
      all_begin (suc m) k = (prefix_self start, all_begin m (k + 1))

      some_seen : (m : ℕ) → 0 < m → AtLeastOne (λ (x : Share E). x.seen ≡ start) (shares_from 0 m start)
      some_seen zero h = absurd (omega arith)
      some_seen (suc m) h = inl refl

      has_number : (m k i : ℕ) → k ≤ i → i < k + m → AtLeastOne (λ (x : Share E). x.number ≡ i) (shares_from k m start)
      has_number zero k i ge lt = absurd (omega arith)
      has_number (suc m) k i ge lt =
          dite (ℕ_discrete k i) (λ e. inl e) (λ ne. inr (has_number m (k + 1) i (omega arith) (omega arith)))

      no_entry : (k : ℕ) → k < n → (log : List E) → Each (λ e. caller_of e ≡ opener) log
          → [] ≡ entries_by caller_of k log
      no_entry k lt log all = sym (entries_by_other caller_of opener k log (λ e. omega arith) all)

      all_owned : (m k : ℕ) → k + m ≤ n → Each (Owned start (λ _. 0) 0) (shares_from k m start)
      all_owned zero k le = tt
      all_owned (suc m) k le =
          ((omega arith, refl, no_entry k (omega arith) start theirs), all_owned m (k + 1) (omega arith))

      length-shares_from : (m k : ℕ) → length (shares_from k m start) ≡ m
      length-shares_from zero k = refl
      length-shares_from (suc m) k = ap suc (length-shares_from m (k + 1))

      sum_by_one : share_count (opening_view n start ∷ []) ≡ length (shares_from 0 n start)
      sum_by_one = omega (arith, sum_by-cons shares_of (opening_view n start) [])
