-- The pots of heights one by one, by stretches of heights with the same live payers.
use Rattle.std.proofs.Common.{◌≡◌, ◌∙◌, ◌⊎◌, ℕ, zero, suc, ◌+◌, ◌-◌, ◌<◌, ◌≤◌, List, ◌∷◌, Bool, true, false, refl, ap, sym, inl, inr, arith}
use Rattle.std.specs.List.{list_all, list_any}
use Rattle.std.proofs.lemmas.Bool.{cases_lt}
use Rattle.pot_layers.specs.declared.put.Put.{Put}
use Rattle.pot_layers.specs.declared.pot_list.Pot.{Pot}
use Rattle.pot_layers.specs.Layers.{payments, live_payers, are_same_seats, is_nobody, lay, pots_to}
use Rattle.pot_layers.specs.Tallies.{total_to}
use Rattle.pot_layers.proofs.Heights.{is_outside, is_within, is_live_at, total_to-suc, total_to-grows, live_payers-between, live_payers-above, live_payers-somebody, live_payers-differ, are_same_seats-self}

-- A pot of so many chips for these players.
abbrev pub pot_of : ℕ → List Bool → Pot
pot_of amount eligible = record { amount = amount; eligible = eligible }

-- A height with the same live payers as the top pot joins it.
pub lay-same : (amount paid : ℕ) (eligible : List Bool) (below : List Pot)
    → lay (pot_of amount eligible ∷ below) paid eligible ≡ pot_of (amount + paid) eligible ∷ below
lay-same amount paid eligible below = rw (are_same_seats-self eligible)

-- A height without a live payer joins the top pot.
lay-nobody : (amount paid : ℕ) (eligible payers : List Bool) (below : List Pot) → is_nobody payers ≡ true
    → lay (pot_of amount eligible ∷ below) paid payers ≡ pot_of (amount + paid) eligible ∷ below
lay-nobody amount paid eligible payers below nobody = by_same (are_same_seats eligible payers) refl
  where
    by_same : (same : Bool) → are_same_seats eligible payers ≡ same
        → lay (pot_of amount eligible ∷ below) paid payers ≡ pot_of (amount + paid) eligible ∷ below
    by_same true is = rw is
    by_same false is = rw (is, nobody)

-- A height with other live payers than the top pot begins a pot.
lay-other : (amount paid : ℕ) (eligible payers : List Bool) (below : List Pot) → are_same_seats eligible payers ≡ false
    → is_nobody payers ≡ false
    → lay (pot_of amount eligible ∷ below) paid payers ≡ pot_of paid payers ∷ pot_of amount eligible ∷ below
lay-other amount paid eligible payers below other somebody = rw (other, somebody)

-- The heights up to this one are cut, and it is the greatest of the top pot: a live player has put in just so much.
pub record IsTop (puts : List Put) (height : ℕ) : Type 0 where
  pub amount : ℕ
  pub rest : List Pot
  pub cut : pots_to puts height ≡ pot_of amount (live_payers puts height) ∷ rest
  pub within : amount ≤ total_to puts height
  pub there : list_any (is_live_at height) puts ≡ true

-- The next height begins a pot, where it has these live payers.
BeginsPot : List Put → ℕ → List Bool → Type 0
BeginsPot puts below payers = (paid : ℕ)
    → lay (pots_to puts below) paid payers ≡ pot_of paid payers ∷ pots_to puts below

begins-first : (puts : List Put) (payers : List Bool) → BeginsPot puts 0 payers
unfolding pots_to BeginsPot
begins-first puts payers = λ paid. refl

begins-next : (puts : List Put) (below height : ℕ) → IsTop puts below → below < height
    → list_any (is_live_at height) puts ≡ true → BeginsPot puts below (live_payers puts height)
unfolding BeginsPot
begins-next puts below height top above there = λ paid.
    rw (top.cut)
    (lay-other top.amount paid (live_payers puts below) (live_payers puts height) top.rest
    (live_payers-differ puts below height top.there above)
    (live_payers-somebody puts height height there (omega arith)))

-- The first height of a pot.
first-height : (puts : List Put) (below before : ℕ) (payers : List Bool) → before ≡ below → BeginsPot puts below payers
    → lay (pots_to puts before) (payments puts (suc before)) payers
    ≡ pot_of (total_to puts (suc before) - total_to puts below) payers ∷ pots_to puts below
unfolding BeginsPot
first-height puts below before payers same begins =
    let more = total_to-suc puts below in
    let sum : payments puts (suc below) ≡ total_to puts (suc below) - total_to puts below = omega (arith, more) in
    rw same (begins (payments puts (suc below)) ∙ ap (λ amount. pot_of amount payers ∷ pots_to puts below) sum)

-- A stretch of heights between which no live player's amount lies is one pot of all that is put in between.
stretch : (puts : List Put) (below height reached : ℕ) → BeginsPot puts below (live_payers puts height)
    → list_all (is_outside below height) puts ≡ true → below < reached → reached ≤ height
    → pots_to puts reached ≡ pot_of (total_to puts reached - total_to puts below)
    (live_payers puts height) ∷ pots_to puts below
unfolding pots_to BeginsPot
stretch puts below height zero begins out low high = absurd (omega arith)
stretch puts below height (suc before) begins out low high =
    let payers = live_payers-between puts below (suc before) height out low high in
    let more = total_to-suc puts before in
    elim (cases_lt below before) [
      | inl later ↦
          let cut = stretch puts below height before begins out later (omega arith) in
          let grown = total_to-grows puts below before (omega arith) in
          let sum : (total_to puts before - total_to puts below) + payments puts (suc before)
          ≡ total_to puts (suc before) - total_to puts below = omega (arith, more, grown) in
          rw (payers, cut)
          (lay-same (total_to puts before - total_to puts below) (payments puts (suc before)) (live_payers puts height)
          (pots_to puts below)
          ∙ ap (λ amount. pot_of amount (live_payers puts height) ∷ pots_to puts below) sum)
      | inr first ↦
          rw payers (first-height puts below before (live_payers puts height) (omega arith) begins)
    ]

-- The next greatest amount of a live player is the top of the next pot.
pub next-cut : (puts : List Put) (below height : ℕ) → (below ≡ 0) ⊎ IsTop puts below → below < height
    → list_all (is_outside below height) puts ≡ true → list_any (is_live_at height) puts ≡ true
    → pots_to puts height ≡ pot_of (total_to puts height - total_to puts below)
    (live_payers puts height) ∷ pots_to puts below
next-cut puts below height (inl first) above out there =
    stretch puts below height height (rw first (begins-first puts (live_payers puts height))) out above (omega arith)
next-cut puts below height (inr top) above out there =
    stretch puts below height height (begins-next puts below height top above there) out above (omega arith)

-- All heights above the greatest amount of a live player join the top pot.
pub above-top : (puts : List Put) (below height : ℕ) → (top : IsTop puts below) → list_all (is_within below) puts ≡ true
    → below ≤ height
    → pots_to puts height ≡ pot_of (top.amount + (total_to puts height - total_to puts below))
    (live_payers puts below) ∷ top.rest
unfolding pots_to
above-top puts below zero top within above =
    let same : below ≡ 0 = omega arith in
    let sum : top.amount ≡ top.amount + (total_to puts 0 - total_to puts below) = rw same (omega arith) in
    ap (pots_to puts) (sym same) ∙ top.cut ∙ ap (λ amount. pot_of amount (live_payers puts below) ∷ top.rest) sum
above-top puts below (suc before) top within above =
    elim (cases_lt below (suc before)) [
      | inl later ↦
          let nobody = live_payers-above puts below (suc before) within later in
          let cut = above-top puts below before top within (omega arith) in
          let more = total_to-suc puts before in
          let grown = total_to-grows puts below before (omega arith) in
          let sum : (top.amount + (total_to puts before - total_to puts below)) + payments puts (suc before)
          ≡ top.amount + (total_to puts (suc before) - total_to puts below) = omega (arith, more, grown) in
          rw cut
          (lay-nobody (top.amount + (total_to puts before - total_to puts below)) (payments puts (suc before))
          (live_payers puts below) (live_payers puts (suc before)) top.rest nobody
          ∙ ap (λ amount. pot_of amount (live_payers puts below) ∷ top.rest) sum)
      | inr same_height ↦
          let same : below ≡ suc before = omega arith in
          let sum : top.amount ≡ top.amount + (total_to puts (suc before) - total_to puts below) =
          rw same (omega arith) in
          ap (pots_to puts) (sym same) ∙ top.cut ∙ ap (λ amount. pot_of amount (live_payers puts below) ∷ top.rest) sum
    ]
