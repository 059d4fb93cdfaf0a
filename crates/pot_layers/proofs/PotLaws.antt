-- What holds of the pots, height by height.
use Rattle.std.proofs.Common.{◌≡◌, ◌∙◌, ℕ, zero, suc, ◌+◌, List, [], ◌∷◌, Bool, true, false, cond, refl, ap, sym, arith}
use Rattle.std.specs.Prelude.{◌&&◌, ◌||◌, not, reverse}
use Rattle.std.specs.List.{list_all}
use Rattle.std.proofs.lemmas.Bool.{and_parts, not_from_false}
use Rattle.std.proofs.lemmas.List.Sums.{sum_by-cons, sum_by-append}
use Rattle.std.proofs.lemmas.List.Folds.{list_all-append}
use Rattle.pot_layers.specs.declared.put.Put.{Put}
use Rattle.pot_layers.specs.declared.pot_list.Pot.{Pot}
use Rattle.pot_layers.specs.Layers.{has_paid, payments, live_payers, greatest_put, are_same_seats, is_nobody, is_contested, lay, pots_to, height_pots}
use Rattle.pot_layers.specs.Tallies.{total_put, total_to}
use Rattle.pot_layers.specs.PotTests.{total_of, live_seats, are_all_in, are_for, have_somebody}
use Rattle.pot_layers.proofs.ListTests.{reverse-cons}
use Rattle.pot_layers.proofs.Heights.{eligible-somebody, total_to-suc, total_to-zero, total_to-greatest}
use Rattle.pot_layers.proofs.Stretches.{pot_of}

-- A height's payments go into the pots.
pub total_of-lay : (pots : List Pot) (paid : ℕ) (payers : List Bool)
    → total_of (lay pots paid payers) ≡ total_of pots + paid
total_of-lay [] paid payers = refl
total_of-lay (top ∷ below) paid payers = by_test (are_same_seats top.eligible payers || is_nobody payers)
  where
    amount_of : Pot → ℕ
    amount_of pot = pot.amount

    by_test : (joins : Bool)
        → total_of (cond joins (pot_of (top.amount + paid) top.eligible ∷ below) (pot_of paid payers ∷ top ∷ below))
        ≡ total_of (top ∷ below) + paid
    by_test true =
        let after = sum_by-cons (λ (pot : Pot). pot.amount) (pot_of (top.amount + paid) top.eligible) below in
        let before = sum_by-cons (λ (pot : Pot). pot.amount) top below in
        omega (arith, after, before)
    by_test false =
        let after = sum_by-cons (λ (pot : Pot). pot.amount) (pot_of paid payers) (top ∷ below) in
        omega (arith, after)

-- The pots to a height hold all that was put in up to it.
pub total_of-pots_to : (puts : List Put) (height : ℕ) → total_of (pots_to puts height) ≡ total_to puts height
unfolding pots_to
total_of-pots_to puts zero = sym (total_to-zero puts)
total_of-pots_to puts (suc height) =
    total_of-lay (pots_to puts height) (payments puts (suc height)) (live_payers puts (suc height))
    ∙ ap (λ n. n + payments puts (suc height)) (total_of-pots_to puts height)
    ∙ sym (total_to-suc puts height)

total_of-reverse : (pots : List Pot) → total_of (reverse pots) ≡ total_of pots
total_of-reverse [] = refl
total_of-reverse (pot ∷ more) =
    let turned = ap total_of (reverse-cons pot more) in
    let parts = sum_by-append (λ (p : Pot). p.amount) (reverse more) (pot ∷ []) in
    let own = sum_by-cons (λ (p : Pot). p.amount) pot [] in
    let whole = sum_by-cons (λ (p : Pot). p.amount) pot more in
    let others = total_of-reverse more in
    omega (arith, turned, parts, own, whole, others)

-- The pots sum to all that was put in.
pub total_of-height_pots : (puts : List Put) → total_of (height_pots puts) ≡ total_put puts
unfolding height_pots
total_of-height_pots puts = total_of-reverse (pots_to puts (greatest_put puts)) ∙ total_of-pots_to puts (greatest_put puts)
    ∙ total_to-greatest puts

-- What a test says of who may win the pots, once a height is laid on them.
eligible-lay : (test : List Bool → Bool) (pots : List Pot) (paid : ℕ) (payers : List Bool)
    → list_all (λ pot. test pot.eligible) pots ≡ true → (pots ≡ [] → test payers ≡ true)
    → (is_nobody payers ≡ false → test payers ≡ true)
    → list_all (λ pot. test pot.eligible) (lay pots paid payers) ≡ true
eligible-lay test [] paid payers all first other = rw (first refl)
eligible-lay test (top ∷ below) paid payers all first other = by_nobody (is_nobody payers) refl
  where
    by_same : (same : Bool) → test payers ≡ true
        → list_all (λ pot. test pot.eligible)
        (cond same (pot_of (top.amount + paid) top.eligible ∷ below) (pot_of paid payers ∷ top ∷ below)) ≡ true
    by_same true is = all
    by_same false is = rw (is, all)

    joined : (same : Bool)
        → list_all (λ pot. test pot.eligible)
        (cond (same || true) (pot_of (top.amount + paid) top.eligible ∷ below) (pot_of paid payers ∷ top ∷ below))
        ≡ true
    joined true = all
    joined false = all

    by_nobody : (nobody : Bool) → is_nobody payers ≡ nobody
        → list_all (λ pot. test pot.eligible) (lay (top ∷ below) paid payers) ≡ true
    by_nobody true is = rw is (joined (are_same_seats top.eligible payers))
    by_nobody false is = by_same (are_same_seats top.eligible payers || is_nobody payers) (other is)

-- What all of a list pass, all of it in reverse pass.
pub list_all-reverse : {A : Type 0} (test : A → Bool) (items : List A) → list_all test items ≡ true
    → list_all test (reverse items) ≡ true
list_all-reverse test [] all = refl
list_all-reverse test (item ∷ more) all =
    ap (list_all test) (reverse-cons item more)
    ∙ list_all-append test (reverse more) (item ∷ [])
    ∙ rw (
      list_all-reverse test more (and_parts (test item) (list_all test more) all).1,
      (and_parts (test item) (list_all test more) all).0,
    )

payers-live : (puts : List Put) (height : ℕ) → are_all_in (live_payers puts height) (live_seats puts) ≡ true
payers-live [] height = refl
payers-live (put ∷ more) height = rw (first put.live (has_paid height put)) (payers-live more height)
  where
    first : (live paid : Bool) → (not (live && paid) || live) ≡ true
    first true true = refl
    first true false = refl
    first false paid = refl

-- Only live players may win a pot.
pub height_pots-live : (puts : List Put) → are_for (live_seats puts) (height_pots puts) ≡ true
unfolding height_pots pots_to
height_pots-live puts = list_all-reverse (λ (pot : Pot). are_all_in pot.eligible (live_seats puts))
    (pots_to puts (greatest_put puts)) (each (greatest_put puts))
  where
    each : (height : ℕ) → are_for (live_seats puts) (pots_to puts height) ≡ true
    each zero = refl
    each (suc height) =
        eligible-lay (λ seats. are_all_in seats (live_seats puts)) (pots_to puts height) (payments puts (suc height))
        (live_payers puts (suc height)) (each height) (λ none. payers-live puts (suc height))
        (λ somebody. payers-live puts (suc height))

not-empty : (pots : List Pot) (paid : ℕ) (payers : List Bool) → lay pots paid payers ≡ [] → ⊥
not-empty [] paid payers same = cc
not-empty (top ∷ below) paid payers same = by_test (are_same_seats top.eligible payers || is_nobody payers) same
  where
    by_test : (joins : Bool)
        → cond joins (pot_of (top.amount + paid) top.eligible ∷ below) (pot_of paid payers ∷ top ∷ below) ≡ [] → ⊥
    by_test true is = cc
    by_test false is = cc

-- Each pot can be won by somebody, where a live player has put in chips.
pub height_pots-somebody : (puts : List Put) → is_contested puts ≡ true → have_somebody (height_pots puts) ≡ true
unfolding height_pots pots_to
height_pots-somebody puts contested = list_all-reverse (λ (pot : Pot). not (is_nobody pot.eligible))
    (pots_to puts (greatest_put puts)) (each (greatest_put puts))
  where
    each : (height : ℕ) → have_somebody (pots_to puts height) ≡ true
    each zero = refl
    each (suc zero) = rw (not_from_false (is_nobody (live_payers puts 1)) (eligible-somebody puts 1 contested))
    each (suc (suc height)) =
        eligible-lay (λ seats. not (is_nobody seats)) (pots_to puts (suc height)) (payments puts (suc (suc height)))
        (live_payers puts (suc (suc height))) (each (suc height))
        (λ none. absurd (not-empty (pots_to puts height) (payments puts (suc height))
        (live_payers puts (suc height)) none))
        (not_from_false (is_nobody (live_payers puts (suc (suc height)))))
