-- Each step of a pass keeps the rule.
use Rattle.std.proofs.Common.{◌≡◌, ◌≢◌, ◌==◌, ℕ, ◌+◌, ◌%◌, ◌^◌, ◌<◌, ◌≤◌, Bool, true, false, List, [], ◌∷◌, ◌++◌, length, drop, set, get_or, refl, sym, ap, ◌∙◌, subst, inl, inr, arith, Option, Some, None, MatchBool}
use Rattle.std.proofs.lemmas.Bool.{false_from_ne_true}
use Rattle.std.proofs.lemmas.Bool.Decides.{nat_tests}
use mathlib.Core.Logic.{dite}
use mathlib.Core.Option.{none, some}
use mathlib.Core.List.{IsPrefix}
use native.Mathlib.Decide.{ℕ_discrete}
use lib.ListN.{get_elem?}
use lib.Seq.{set-get_or}
use Rattle.atomic_table.specs.Table.{State, Me, step, keeps, takes, gives, Allows}
use Rattle.atomic_table.proofs.Lists.{set_here, set_again}
use Rattle.history_lock.specs.declared.view.Share.{Share}
use Rattle.history_lock.specs.declared.view.View.{View}
use Rattle.history_lock.specs.Entries.{entries_by, IsGrownByPasses}
use Rattle.history_lock.specs.Views.{Each, HasView, first_share}
use Rattle.history_lock.specs.Rule.{IsKept, IsKeptShare, SlotIsRight, OneIsServed}
use Rattle.history_lock.specs.Steps.{drew, looked, IsFound, served_view, share_left, published, passed_on, counted}
use Rattle.history_lock.proofs.Lists.{within, each_set}
use Rattle.history_lock.proofs.Prefixes.{prefix_self, prefix_length, drop_append, entries_by_grown, entries_by_kept, passes_grow}
use Rattle.history_lock.proofs.Frames.{same_view, tickets_stay, served_stays, spent_stays, seen_grows, numbers_stay}
use Rattle.history_lock.proofs.Tickets.{waiting_lt, tickets_drawn, tickets_spent, slot_stays}

module _ {Val E : Type 0} (history : Val → List E) (caller_of : E → ℕ) (n : ℕ) (start : List E) where
  abbrev St : Type 0
  St = State (Option Val) (View E)

  abbrev M : Type 0
  M = Me (Option Val) (View E)

  abbrev Rule : St → Type 0
  Rule = IsKept history caller_of n start

  -- the share of a pass, as the rule has it
  owned : (s : St) (r : Rule s) (id : ℕ) (v : View E) (x : Share E) → HasView s.views id v → v.shares ≡ x ∷ []
      → IsKeptShare caller_of n r.now r.keeper id x
  owned s r id v x at has = (subst (Each (IsKeptShare caller_of n r.now r.keeper id)) has (r.numbers.own id v at)).0

  begins : (s : St) (r : Rule s) (id : ℕ) (v : View E) (x : Share E) → HasView s.views id v → v.shares ≡ x ∷ []
      → IsPrefix x.seen r.now
  begins s r id v x at has = (subst (Each (λ (z : Share E). IsPrefix z.seen r.now)) has (r.longest.begin_it id v at)).0

  word : (s : St) (r : Rule s) (i : ℕ)
      → get_or s.words i 0 ≡ get_or (r.ticket ∷ r.serving ∷ length r.now ∷ r.bells) i 0
  word s r i = ap (λ ws. get_or ws i 0) r.words

  -- a pass with no ticket may draw one: it gets the number found as its ticket, and has one hold more
  pub draws : (slots id : ℕ) (v : View E) (c : List (ℕ × Option Val)) (x : Share E) → v.shares ≡ x ∷ []
      → v.ticket ≡ None → v.served ≡ false
      → Allows Rule slots id (v, c) 0 (λ k. (k + 1) % 2 ^ 64) (drew (step slots 0 1 0 none) (v, c))
  draws slots id v c x has idle out s r _ at fits =
      let found : ℕ = get_or s.words 0 0 in
      let is : found ≡ r.ticket = word s r 0 in
      let w : View E = record v { ticket = Some found; holds = v.holds + 1 } in
      let mine = owned s r id v x at has in (
        w,
        keeps,
        tt,
        record {
          now = r.now;
          ticket = (found + 1) % 2 ^ 64;
          serving = r.serving;
          bells = r.bells;
          keeper = r.keeper;
          limit = r.limit;
          grown = r.grown;
          words = ap (λ ws. set ws 0 ((found + 1) % 2 ^ 64)) r.words;
          tickets = tickets_drawn n r.ticket r.serving found s.views id v w at idle refl is r.limit
              (waiting_lt n r.now s.views id v x at has idle r.spent r.numbers.once) r.tickets;
          longest = seen_grows r.now r.now s.views id v w x x at has has (prefix_self r.now) r.longest.fits
              (begins s r id v x at has) (r.longest.known id v at) (inr (refl, refl)) r.longest;
          numbers = numbers_stay caller_of n r.now r.now r.keeper s.views id v w x x at has has refl mine.2
              (λ k ne. refl) r.numbers;
          served = record {
            ticket = each_set (λ (j : ℕ) (a : View E). a.served ≡ true → a.ticket ≡ Some r.serving) s.views id w
                (λ is'. absurd (cc (is', out))) (λ j a ne h. r.served.ticket j a h);
            one = λ i j a b h k is' also.
                let old : (j : ℕ) (a : View E) → HasView (set s.views id w) j a → a.served ≡ true
                → HasView s.views j a = each_set (λ (j : ℕ) (a : View E). a.served ≡ true
                → HasView s.views j a) s.views id w
                (λ is'. absurd (cc (is', out))) (λ j a ne h is'. h) in
                r.served.one i j a b (old i a h is') (old j b k also) is' also;
          };
          slot = slot_stays history r.now s.homes s.views id v w at out out r.slot;
          spent = spent_stays r.now r.now s.views id w x has r.spent;
        },
        refl,
      )

  -- the state with the word i as it was found, and the view as it was
  unmoved : (s : St) (i id : ℕ) (v : View E) → HasView s.views id v → Rule s
      → Rule record { words = set s.words i (get_or s.words i 0); homes = s.homes; views = set s.views id v }
  unmoved s i id v at r =
      subst (λ (t : List ℕ × List (View E)). Rule record { words = t.0; homes = s.homes; views = t.1 })
      (λ k. (sym (set-get_or s.words i 0) k, sym (set_again s.views id v at) k)) r

  -- where a view has the ticket that is served and is not served yet, no view is served
  none_served : (s : St) (r : Rule s) (id : ℕ) (v : View E) → HasView s.views id v → v.ticket ≡ Some r.serving
      → v.served ≡ false → (j : ℕ) (a : View E) → HasView s.views j a → a.served ≡ false
  none_served s r id v at has out j a h = false_from_ne_true a.served (λ is.
      let here : j ≡ id = r.tickets.differ j id a v r.serving h at (r.served.ticket j a h is) has in
      let same : a ≡ v = same_view s.views id a v (subst (λ k. HasView s.views k a) here h) at in
      absurd (cc (is, out, same)))

  -- what a look tells, by whether the ticket was served
  abbrev LookTells : Bool → M → M → Share E → Type 0
  LookTells b before after share =
      MatchBool b ((x : Val) × (after ≡ (served_view before.0 share (history x), (0, Some x) ∷ before.1))
      × IsFound history caller_of share before.0.known x) (after ≡ before)

  -- a pass with a ticket that is not served yet may load the ticket that is served, and where that is its own
  -- it takes the slot, with a value that fits what it knows
  pub looks : (slots id : ℕ) (v : View E) (x : Share E) (ticket : ℕ) → v.shares ≡ x ∷ [] → v.ticket ≡ Some ticket
      → v.served ≡ false
      → Allows Rule slots id (v, []) 1 (λ k. k) (looked history caller_of (step slots 1 0 0 none) (v, []))
  looks slots id v x ticket has drew out s r _ at fits =
      let found : ℕ = get_or s.words 1 0 in
      let is : found ≡ r.serving = word s r 1 in
      dite (ℕ_discrete found ticket)
      (λ hit. let here : v.ticket ≡ Some r.serving = drew ∙ ap (λ (k : ℕ). Some k) (sym hit ∙ is) in
      let quiet = none_served s r id v at here out in
      let home = r.slot.home quiet in
      let val : Val = home.0 in
      let y : Share E = record x { seen = history val } in
      let w : View E = served_view v x (history val) in
      let mine = owned s r id v x at has in
      let found' : IsFound history caller_of x v.known val = record {
        seen = subst (IsPrefix x.seen) (sym home.2) (begins s r id v x at has);
        own = ap (entries_by caller_of x.number) home.2 ∙ sym mine.2;
        known = subst (λ (l : List E). v.known ≤ length l) (sym home.2) (r.longest.known id v at);
      } in (
        w,
        takes 0 (Some val),
        ap (λ hs. get_elem? hs 0) home.1,
        record {
          now = r.now;
          ticket = r.ticket;
          serving = r.serving;
          bells = r.bells;
          keeper = r.keeper;
          limit = r.limit;
          grown = r.grown;
          words = set-get_or s.words 1 0 ∙ r.words;
          tickets = tickets_stay n r.ticket r.serving s.views id v w at refl r.tickets;
          longest = seen_grows r.now r.now s.views id v w x y at has refl (prefix_self r.now) r.longest.fits
              (subst (λ l. IsPrefix l r.now) (sym home.2) (prefix_self r.now)) (r.longest.known id v at)
              (inl home.2) r.longest;
          numbers = numbers_stay caller_of n r.now r.now r.keeper s.views id v w x y at has refl refl mine.2
              (λ k ne. refl) r.numbers;
          served = record {
            ticket = each_set (λ (j : ℕ) (a : View E). a.served ≡ true → a.ticket ≡ Some r.serving) s.views id w
                (λ _. here) (λ j a ne h. r.served.ticket j a h);
            one = λ i j a b h k is' also.
                let only : (j : ℕ) (a : View E) → HasView (set s.views id w) j a → a.served ≡ true
                → j ≡ id = each_set (λ (j : ℕ) (a : View E). a.served ≡ true → j ≡ id) s.views id w
                (λ _. refl) (λ j a ne h is'. absurd (cc (is', quiet j a h))) in
                only i a h is' ∙ sym (only j b k also);
          };
          slot = record {
            home = λ nobody. absurd (cc (nobody id w (set_here s.views id w (within s.views id v at))));
            out = each_set (λ (j : ℕ) (a : View E). a.served ≡ true
                → (set s.homes 0 none ≡ none ∷ []) × Each (λ (z : Share E). z.seen ≡ r.now) a.shares) s.views id w
                (λ _. (ap (λ hs. set hs 0 none) home.1, (home.2, tt))) (λ j a ne h is'. absurd (cc (is', quiet j a h)));
          };
          spent = spent_stays r.now r.now s.views id w y refl r.spent;
        },
        (λ t share has_ticket has_share.
            let same_ticket : ticket ≡ t = cc (drew, has_ticket) in
            let same_share : x ≡ share = ap first_share (sym has ∙ has_share) in
            let test : (found == t) ≡ true = let e : found ≡ t = hit ∙ same_ticket in grind (arith, nat_tests) in
            subst (λ b. LookTells b (v, []) (w, (0, Some val) ∷ []) share) (sym test) (
              val,
              ap (λ (z : Share E). let m : M = (served_view v z (history val), (0, Some val) ∷ []) in
                  m) same_share,
              subst (λ (z : Share E). IsFound history caller_of z v.known val) same_share found',
            )),
      ))
      (λ miss. (
        v,
        keeps,
        tt,
        unmoved s 1 id v at r,
        (λ t share has_ticket has_share.
            let same_ticket : ticket ≡ t = cc (drew, has_ticket) in
            let test : (found == t) ≡ false = let e : found ≢ t = λ h. miss (h ∙ sym same_ticket) in
            grind (arith, nat_tests) in
            subst (λ b. LookTells b (v, []) (v, []) share) (sym test) refl),
      ))

  -- a pass that is served, with its slot in hand and empty, may publish the length of the history that it leaves,
  -- where that fits a word and the history extends what it has seen by entries of its own alone
  pub publishes : (slots id : ℕ) (v : View E) (x : Share E) (left added : List E) (count : ℕ) → v.shares ≡ x ∷ []
      → v.served ≡ true → left ≡ x.seen ++ added → Each (λ e. caller_of e ≡ x.number) added
      → count ≡ length left → count < 2 ^ 64
      → Allows Rule slots id (v, (0, None) ∷ []) 2 (λ _. count)
      (λ _. published left (step slots 2 count 0 none) (v, (0, None) ∷ []) count)
  publishes slots id v x left added count has inside grown theirs is fits s r _ at _ =
      let out = r.slot.out id v at inside in
      let seen : x.seen ≡ r.now = (subst (Each (λ (z : Share E). z.seen ≡ r.now)) has out.1).0 in
      let whole : left ≡ r.now ++ added = grown ∙ ap (λ l. l ++ added) seen in
      let y : Share E = share_left x left in
      let w : View E = record v { shares = y ∷ [] } in
      let mine = owned s r id v x at has in
      let more : drop (length x.seen) left ≡ added = ap (drop (length x.seen)) grown ∙ drop_append x.seen added in
      let longer : IsPrefix r.now left = (added, sym whole) in
      let own : y.own ≡ entries_by caller_of x.number left =
      ap (λ l. x.own ++ l) more
      ∙ (ap (λ l. l ++ added) mine.2
      ∙ (sym (entries_by_grown caller_of x.number r.now added theirs)
      ∙ ap (entries_by caller_of x.number) (sym whole))) in
      let known : v.known ≤ length left = omega (arith, r.longest.known id v at, prefix_length r.now left longer) in
      let later : IsGrownByPasses caller_of n start left = subst (IsGrownByPasses caller_of n start) (sym whole)
      (passes_grow caller_of n x.number start r.now added mine.0 r.grown theirs) in (
        w,
        keeps,
        tt,
        record {
          now = left;
          ticket = r.ticket;
          serving = r.serving;
          bells = r.bells;
          keeper = r.keeper;
          limit = r.limit;
          grown = later;
          words = ap (λ ws. set ws 2 count) r.words ∙ ap (λ k. r.ticket ∷ r.serving ∷ k ∷ r.bells) is;
          tickets = tickets_stay n r.ticket r.serving s.views id v w at refl r.tickets;
          longest = seen_grows r.now left s.views id v w x y at has refl longer (omega arith) (prefix_self left) known
              (inl refl) r.longest;
          numbers = numbers_stay caller_of n r.now left r.keeper s.views id v w x y at has refl refl own
              (λ k ne. ap (entries_by caller_of k) whole ∙ entries_by_kept caller_of x.number k r.now added ne theirs)
              r.numbers;
          served = served_stays r.serving s.views id v w at refl refl r.served;
          slot = record {
            home = λ nobody. absurd (cc (nobody id w (set_here s.views id w (within s.views id v at)), inside));
            out = each_set (λ (j : ℕ) (a : View E). a.served ≡ true
                → (s.homes ≡ none ∷ []) × Each (λ (z : Share E). z.seen ≡ left) a.shares) s.views id w
                (λ _. (out.0, (refl, tt))) (λ j a ne h is'. absurd (ne (r.served.one j id a v h at is' inside)));
          };
          spent = spent_stays r.now left s.views id w y refl r.spent;
        },
        (
          refl,
          λ share has_share. let same : x ≡ share = ap first_share (sym has ∙ has_share) in
              ap (λ (z : Share E). let m : M = (record v { shares = share_left z left ∷ [] }, (0, None) ∷ []) in
              m) same,
        ),
      )

  -- a pass that is served may pass on where the value in its slot has just the history that it has seen
  pub passes_on : (slots id : ℕ) (v : View E) (x : Share E) (val : Val) → v.shares ≡ x ∷ [] → v.served ≡ true
      → history val ≡ x.seen
      → Allows Rule slots id (v, (0, Some val) ∷ []) 1 (λ k. (k + 1) % 2 ^ 64)
      (passed_on (step slots 1 1 0 none) (v, (0, Some val) ∷ []))
  passes_on slots id v x val has inside back s r _ at fits =
      let found : ℕ = get_or s.words 1 0 in
      let is : found ≡ r.serving = word s r 1 in
      let out = r.slot.out id v at inside in
      let seen : x.seen ≡ r.now = (subst (Each (λ (z : Share E). z.seen ≡ r.now)) has out.1).0 in
      let w : View E = record v { ticket = None; served = false } in
      let mine = owned s r id v x at has in
      let quiet : (j : ℕ) (a : View E) → HasView (set s.views id w) j a
      → a.served ≡ false = each_set (λ (j : ℕ) (a : View E). a.served ≡ false) s.views id w refl
      (λ j a ne h. false_from_ne_true a.served (λ is'. ne (r.served.one j id a v h at is' inside))) in (
        w,
        gives,
        tt,
        record {
          now = r.now;
          ticket = r.ticket;
          serving = (found + 1) % 2 ^ 64;
          bells = r.bells;
          keeper = r.keeper;
          limit = r.limit;
          grown = r.grown;
          words = ap (λ ws. set ws 1 ((found + 1) % 2 ^ 64)) r.words;
          tickets = let t = tickets_spent n r.ticket r.serving s.views id v w at (r.served.ticket id v at inside) refl
              (omega arith) r.tickets in
              subst (λ k. Rattle.history_lock.specs.Rule.TicketsAreInRange n r.ticket ((k + 1) % 2 ^ 64)
              (set s.views id w)) (sym is) t;
          longest = seen_grows r.now r.now s.views id v w x x at has has (prefix_self r.now) r.longest.fits
              (begins s r id v x at has) (r.longest.known id v at) (inr (refl, refl)) r.longest;
          numbers = numbers_stay caller_of n r.now r.now r.keeper s.views id v w x x at has has refl mine.2
              (λ k ne. refl) r.numbers;
          served = record {
            ticket = λ j a h is'. absurd (cc (is', quiet j a h));
            one = λ i j a b h k is' also. absurd (cc (is', quiet i a h));
          };
          slot = record {
            home = λ _. (val, ap (λ hs. set hs 0 (some (Some val))) out.0, back ∙ seen);
            out = λ j a h is'. absurd (cc (is', quiet j a h));
          };
          spent = spent_stays r.now r.now s.views id w x has r.spent;
        },
        refl,
      )

  -- a pass that is not served may load the count, which is not below what it knew, nor below the length of what it
  -- has seen
  pub counts : (slots id : ℕ) (v : View E) (c : List (ℕ × Option Val)) (x : Share E) → v.shares ≡ x ∷ []
      → v.served ≡ false
      → Allows Rule slots id (v, c) 2 (λ k. k) (counted (step slots 2 0 0 none) (v, c))
  counts slots id v c x has out s r _ at _ =
      let found : ℕ = get_or s.words 2 0 in
      let is : found ≡ length r.now = word s r 2 in
      let w : View E = record v { known = found } in
      let mine = owned s r id v x at has in
      let least : v.known ≤ found = omega (arith, r.longest.known id v at) in
      let begin = begins s r id v x at has in
      let seen : length x.seen ≤ found = omega (arith, prefix_length x.seen r.now begin) in (
        w,
        keeps,
        tt,
        record {
          now = r.now;
          ticket = r.ticket;
          serving = r.serving;
          bells = r.bells;
          keeper = r.keeper;
          limit = r.limit;
          grown = r.grown;
          words = set-get_or s.words 2 0 ∙ r.words;
          tickets = tickets_stay n r.ticket r.serving s.views id v w at refl r.tickets;
          longest = seen_grows r.now r.now s.views id v w x x at has has (prefix_self r.now) r.longest.fits begin
              (omega arith) (inr (refl, refl)) r.longest;
          numbers = numbers_stay caller_of n r.now r.now r.keeper s.views id v w x x at has has refl mine.2
              (λ k ne. refl) r.numbers;
          served = served_stays r.serving s.views id v w at refl refl r.served;
          slot = slot_stays history r.now s.homes s.views id v w at out out r.slot;
          spent = spent_stays r.now r.now s.views id w x has r.spent;
        },
        (refl, least, subst (Each (λ (z : Share E). length z.seen ≤ found)) (sym has) (seen, tt)),
      )
