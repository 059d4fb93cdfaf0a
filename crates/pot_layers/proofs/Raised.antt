-- What each player's total becomes where one puts in more, or folds.
use Rattle.std.proofs.Common.{◌≡◌, ◌∙◌, ℕ, zero, suc, ◌+◌, ◌-◌, ◌<◌, ◌≤◌, List, [], ◌∷◌, false, ◌++◌, length, get_or, set, take, drop, min, refl, ap, sym, subst, arith}
use Rattle.std.specs.Prelude.{map}
use Rattle.std.proofs.lemmas.List.{length-set, length-map}
use Rattle.std.proofs.lemmas.List.Sums.{sum_by-cons, get_or-le-sum_by}
use Rattle.pot_layers.specs.declared.put.Put.{Put}
use Rattle.pot_layers.specs.declared.reach.Reach.{Reach}
use Rattle.pot_layers.specs.Tallies.{put_in_at, folded_at, total_put, total_to}
use Rattle.pot_layers.specs.Reaches.{puts_of, reach_of, grown, AreRight}
use Rattle.pot_layers.proofs.Heights.{total_to-zero, total_to-le}

-- Nobody.
abbrev pub no_put : Put
no_put = record { amount = 0; live = false }

-- What is put in up to a height grows by what lies within it of the chips that one puts in.
total_to-put_in_at : (puts : List Put) (index amount height : ℕ) → index < length puts
    → total_to (put_in_at puts index amount) height
    ≡ total_to puts height +
    (min ((get_or puts index no_put).amount + amount) height - min (get_or puts index no_put).amount height)
total_to-put_in_at [] index amount height within = absurd (omega arith)
total_to-put_in_at (put ∷ more) zero amount height within =
    let after = sum_by-cons (λ (p : Put). min p.amount height) (record put { amount = put.amount + amount }) more in
    let before = sum_by-cons (λ (p : Put). min p.amount height) put more in
    omega (arith, after, before)
total_to-put_in_at (put ∷ more) (suc index) amount height within =
    let after = sum_by-cons (λ (p : Put). min p.amount height) put (put_in_at more index amount) in
    let before = sum_by-cons (λ (p : Put). min p.amount height) put more in
    let others = total_to-put_in_at more index amount height (omega arith) in
    omega (arith, after, before, others)

-- Who folds takes nothing back.
total_to-folded_at : (puts : List Put) (index height : ℕ)
    → total_to (folded_at puts index) height ≡ total_to puts height
total_to-folded_at [] index height = refl
total_to-folded_at (put ∷ more) zero height =
    sum_by-cons (λ (p : Put). min p.amount height) (record put { live = false }) more
    ∙ sym (sum_by-cons (λ (p : Put). min p.amount height) put more)
total_to-folded_at (put ∷ more) (suc index) height =
    let after = sum_by-cons (λ (p : Put). min p.amount height) put (folded_at more index) in
    let before = sum_by-cons (λ (p : Put). min p.amount height) put more in
    let others = total_to-folded_at more index height in
    omega (arith, after, before, others)

-- Where a player folds, all that is put in stays the same.
pub total_put-folded_at : (puts : List Put) (index : ℕ) → total_put (folded_at puts index) ≡ total_put puts
total_put-folded_at [] index = refl
total_put-folded_at (put ∷ more) zero =
    sum_by-cons (λ (p : Put). p.amount) (record put { live = false }) more
    ∙ sym (sum_by-cons (λ (p : Put). p.amount) put more)
total_put-folded_at (put ∷ more) (suc index) =
    let after = sum_by-cons (λ (p : Put). p.amount) put (folded_at more index) in
    let before = sum_by-cons (λ (p : Put). p.amount) put more in
    let others = total_put-folded_at more index in
    omega (arith, after, before, others)

-- Where a player puts in more, all that is put in grows by that amount.
pub total_put-put_in_at : (puts : List Put) (index amount : ℕ) → index < length puts
    → total_put (put_in_at puts index amount) ≡ total_put puts + amount
total_put-put_in_at [] index amount within = absurd (omega arith)
total_put-put_in_at (put ∷ more) zero amount within =
    let after = sum_by-cons (λ (p : Put). p.amount) (record put { amount = put.amount + amount }) more in
    let before = sum_by-cons (λ (p : Put). p.amount) put more in
    omega (arith, after, before)
total_put-put_in_at (put ∷ more) (suc index) amount within =
    let after = sum_by-cons (λ (p : Put). p.amount) put (put_in_at more index amount) in
    let before = sum_by-cons (λ (p : Put). p.amount) put more in
    let others = total_put-put_in_at more index amount (omega arith) in
    omega (arith, after, before, others)

-- A player's put is within all that is put in.
pub amount-within : (puts : List Put) (index : ℕ) → index < length puts
    → (get_or puts index no_put).amount ≤ total_put puts
amount-within puts index within = get_or-le-sum_by (λ (put : Put). put.amount) puts index no_put within

-- Where nobody stands nothing is put in, and the total is 0.
abbrev pub no_reach : Reach
no_reach = record { put = no_put; total = 0 }

-- The put at an index is the put of who stands there.
pub get_or-puts_of : (reaches : List Reach) (index : ℕ)
    → get_or (puts_of reaches) index no_put ≡ (get_or reaches index no_reach).put
get_or-puts_of [] index = refl
get_or-puts_of (reach ∷ more) zero = refl
get_or-puts_of (reach ∷ more) (suc index) = get_or-puts_of more index

-- Who stands at an index, once he has put in more and his total is this.
abbrev pub put_in : Reach → ℕ → ℕ → Reach
put_in reach amount total =
    record { put = record { amount = reach.put.amount + amount; live = reach.put.live }; total = total }

-- Who stands at an index, once he has folded.
abbrev pub folded : Reach → Reach
folded reach = record { put = record { amount = reach.put.amount; live = false }; total = reach.total }

-- Once one puts in more and the others' totals have grown, only his put is more, by that amount.
pub puts_of-put_in : (reaches : List Reach) (before after index amount total : ℕ)
    → puts_of (set (map (grown before after) reaches) index
    (put_in (get_or reaches index no_reach) amount total)) ≡ put_in_at (puts_of reaches) index amount
puts_of-put_in [] before after index amount total = refl
puts_of-put_in (reach ∷ more) before after zero amount total =
    ap (λ puts. record { amount = reach.put.amount + amount; live = reach.put.live } ∷ puts) (same more)
  where
    same : (reaches : List Reach) → puts_of (map (grown before after) reaches) ≡ puts_of reaches
    same [] = refl
    same (other ∷ others) = ap (λ puts. other.put ∷ puts) (same others)
puts_of-put_in (reach ∷ more) before after (suc index) amount total =
    ap (λ puts. reach.put ∷ puts) (puts_of-put_in more before after index amount total)

-- Once one folds, every put is as it was but that his is not live.
pub puts_of-folded : (reaches : List Reach) (index : ℕ)
    → puts_of (set reaches index (folded (get_or reaches index no_reach))) ≡ folded_at (puts_of reaches) index
puts_of-folded [] index = refl
puts_of-folded (reach ∷ more) zero = refl
puts_of-folded (reach ∷ more) (suc index) = ap (λ puts. reach.put ∷ puts) (puts_of-folded more index)

each-put_in : (whole new puts : List Put) (before after index amount total : ℕ)
    → ((put : Put) → grown before after (reach_of whole put) ≡ reach_of new put) → index < length puts
    → total ≡ total_to new ((get_or puts index no_put).amount + amount)
    → set (map (grown before after) (map (reach_of whole) puts)) index
    (put_in (get_or (map (reach_of whole) puts) index no_reach) amount total)
    ≡ map (reach_of new) (put_in_at puts index amount)
each-put_in whole new [] before after index amount total each within is = absurd (omega arith)
each-put_in whole new (put ∷ more) before after zero amount total each within is =
    let others = all more in
    rw (is, others)
  where
    all : (puts : List Put) → map (grown before after) (map (reach_of whole) puts) ≡ map (reach_of new) puts
    all [] = refl
    all (other ∷ rest) = rw (each other, all rest)
each-put_in whole new (put ∷ more) before after (suc index) amount total each within is =
    rw (each put, each-put_in whole new more before after index amount total each (omega arith) is)

each-folded : (whole new puts : List Put) (index : ℕ) → ((put : Put) → reach_of whole put ≡ reach_of new put)
    → set (map (reach_of whole) puts) index (folded (get_or (map (reach_of whole) puts) index no_reach))
    ≡ map (reach_of new) (folded_at puts index)
each-folded whole new [] index each = refl
each-folded whole new (put ∷ more) zero each =
    let total : total_to whole put.amount ≡ total_to new put.amount = ap (λ reach. reach.total) (each put) in
    rw (total, all more)
  where
    all : (puts : List Put) → map (reach_of whole) puts ≡ map (reach_of new) puts
    all [] = refl
    all (other ∷ rest) = rw (each other, all rest)
each-folded whole new (put ∷ more) (suc index) each = rw (each put, each-folded whole new more index each)

-- Once one puts in more and the others' totals have grown, every total is right.
pub AreRight-put_in : (reaches : List Reach) (index amount total : ℕ) → AreRight reaches → index < 10
    → total ≡ total_to (puts_of reaches) ((get_or reaches index no_reach).put.amount + amount) + amount
    → AreRight (set (map (grown (get_or reaches index no_reach).put.amount
    ((get_or reaches index no_reach).put.amount + amount)) reaches) index
    (put_in (get_or reaches index no_reach) amount total))
AreRight-put_in reaches index amount total right within is =
    let puts = puts_of reaches in
    let before = (get_or reaches index no_reach).put.amount in
    let after = before + amount in
    let own : (get_or puts index no_put).amount ≡ before =
    ap (λ (put : Put). put.amount) (get_or-puts_of reaches index) in
    let reached : index < length puts = rw length-map (omega (arith, within, right.seats)) in
    let new = puts_of-put_in reaches before after index amount total in
    let each : (put : Put) → grown before after (reach_of puts put) ≡ reach_of (put_in_at puts index amount) put =
    λ put. ap (λ (n : ℕ). record { put = put; total = n })
    (sym (rw own at (total_to-put_in_at puts index amount put.amount reached))) in
    let whole : total ≡ total_to (put_in_at puts index amount) ((get_or puts index no_put).amount + amount) =
    rw own (whole_is (total_to puts after) before amount total is
    ∙ sym (rw own at (total_to-put_in_at puts index amount after reached))) in
    record {
      seats = length-set (map (grown before after) reaches) index
          (put_in (get_or reaches index no_reach) amount total) ∙ length-map reaches (grown before after)
          ∙ right.seats;
      each =
          ap (λ (s : List Reach). set (map (grown before after) s) index
          (put_in (get_or s index no_reach) amount total)) right.each
          ∙ each-put_in puts (put_in_at puts index amount) puts before after index amount total each reached whole
          ∙ sym (ap (λ (p : List Put). map (reach_of p) p) new);
    }
  where
    whole_is : (sum before amount total : ℕ) → total ≡ sum + amount
        → total ≡ sum + (min (before + amount) (before + amount) - min before (before + amount))
    whole_is sum before amount total is = omega (arith, is)

-- Once one folds, every total is right.
pub AreRight-folded : (reaches : List Reach) (index : ℕ) → AreRight reaches
    → AreRight (set reaches index (folded (get_or reaches index no_reach)))
AreRight-folded reaches index right =
    let puts = puts_of reaches in
    let new = puts_of-folded reaches index in
    let each : (put : Put) → reach_of puts put ≡ reach_of (folded_at puts index) put =
    λ put. ap (λ (n : ℕ). record { put = put; total = n }) (sym (total_to-folded_at puts index put.amount)) in
    record {
      seats = length-set reaches index (folded (get_or reaches index no_reach)) ∙ right.seats;
      each =
          ap (λ (s : List Reach). set s index (folded (get_or s index no_reach))) right.each
          ∙ each-folded puts (folded_at puts index) puts index each
          ∙ sym (ap (λ (p : List Put). map (reach_of p) p) new);
    }

right-at : (all puts : List Put) (index : ℕ)
    → (get_or (map (reach_of all) puts) index no_reach).total
    ≡ total_to all (get_or (map (reach_of all) puts) index no_reach).put.amount
right-at all [] index = sym (total_to-zero all)
right-at all (put ∷ more) zero = refl
right-at all (put ∷ more) (suc index) = right-at all more index

-- The total of who stands at an index is within all that is put in.
pub total-within : (reaches : List Reach) (index : ℕ) → AreRight reaches
    → (get_or reaches index no_reach).total ≤ total_put (puts_of reaches)
total-within reaches index right =
    let is : (get_or reaches index no_reach).total ≡ total_to (puts_of reaches)
    (get_or reaches index no_reach).put.amount =
    subst (λ (s : List Reach). (get_or s index no_reach).total ≡ total_to (puts_of reaches)
    (get_or s index no_reach).put.amount) (sym right.each)
    (right-at (puts_of reaches) (puts_of reaches) index) in
    rw is (total_to-le (puts_of reaches) (get_or reaches index no_reach).put.amount)

-- A list that is rewritten item by item keeps its length.
pub length-at_turn : {A : Type 0} (f : A → A) (items : List A) (index : ℕ)
    → length (map f (take index items) ++ drop index items) ≡ length items
length-at_turn f [] zero = refl
length-at_turn f [] (suc index) = refl
length-at_turn f (item ∷ more) zero = refl
length-at_turn f (item ∷ more) (suc index) = ap suc (length-at_turn f more index)

-- Who puts in nothing changes no put.
pub nothing_added : (puts : List Put) (index : ℕ) → put_in_at puts index 0 ≡ puts
nothing_added [] index = refl
nothing_added (put ∷ more) zero =
    let same : put.amount + 0 ≡ put.amount = omega arith in ap (λ (n : ℕ). record put { amount = n } ∷ more) same
nothing_added (put ∷ more) (suc index) = ap (λ (rest : List Put). put ∷ rest) (nothing_added more index)
