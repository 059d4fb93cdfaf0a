-- What a pot for one player alone comes to.
use Rattle.std.proofs.Common.{◌≡◌, ◌≢◌, ◌∙◌, ℕ, zero, suc, ◌+◌, ◌≤◌, ◌<◌, List, [], ◌∷◌, ◌++◌, false, length, get_or, replicate, refl, ap, arith}
use Rattle.std.specs.Prelude.{sum, Option}
use Rattle.std.proofs.lemmas.List.Sums.{fold-append, sum_by-cons}
use Rattle.button_blinds.specs.SeatSets.{has_seat}
use Rattle.pot_layers.specs.declared.pot_list.Pot.{Pot}
use Rattle.showdown.specs.declared.hand.Hand.{Hand}
use Rattle.showdown.specs.Awards.{award_pot, awards_of}
use Rattle.showdown.proofs.AwardLaws.{IsPotAt, award_pot-other, length-award_pot, sum-award_pot}
use Rattle.showdown.proofs.Each.{length-awards_of}

-- Numbers that are the same at each index have the same sum.
same-sum : (before after : List ℕ) → length after ≡ length before
    → ((index : ℕ) → get_or after index 0 ≡ get_or before index 0) → sum after ≡ sum before
same-sum [] [] size same = refl
same-sum [] (item ∷ after) size same = absurd (omega arith)
same-sum (old ∷ before) [] size same = absurd (omega arith)
same-sum (old ∷ before) (item ∷ after) size same =
    let here : item ≡ old = same 0 in
    let later = same-sum before after (omega arith) (λ index. same (suc index)) in
    let old_sum = sum_by-cons (λ (n : ℕ). n) old before in
    let new_sum = sum_by-cons (λ (n : ℕ). n) item after in
    omega (arith, here, later, old_sum, new_sum)

-- Where numbers are the same at each index but one, the one grows as their sum does.
one-grows : (before after : List ℕ) (index : ℕ) → length after ≡ length before → index < length before
    → ((other : ℕ) → other ≢ index → get_or after other 0 ≡ get_or before other 0)
    → sum after + get_or before index 0 ≡ sum before + get_or after index 0
one-grows [] after index size within same = absurd (omega arith)
one-grows (old ∷ before) [] index size within same = absurd (omega arith)
one-grows (old ∷ before) (item ∷ after) zero size within same =
    let later = same-sum before after (omega arith) (λ index. same (suc index) (λ is. absurd (omega (arith, is)))) in
    let old_sum = sum_by-cons (λ (n : ℕ). n) old before in
    let new_sum = sum_by-cons (λ (n : ℕ). n) item after in
    omega (arith, later, old_sum, new_sum)
one-grows (old ∷ before) (item ∷ after) (suc index) size within same =
    let here : item ≡ old = same 0 (λ is. absurd (omega (arith, is))) in
    let later = one-grows before after index (omega arith) (omega arith)
    (λ other differ. same (suc other) (λ is. differ (omega (arith, is)))) in
    let old_sum = sum_by-cons (λ (n : ℕ). n) old before in
    let new_sum = sum_by-cons (λ (n : ℕ). n) item after in
    omega (arith, here, later, old_sum, new_sum)

-- The pot is for the player at an index alone.
abbrev pub IsSole : Pot → ℕ → Type 0
IsSole pot index = (other : ℕ) → other ≢ index → has_seat pot.eligible (suc other) ≡ false

-- A pot for one player alone goes to him.
award_pot-sole : (hands : List (Option Hand)) (unit button seats : ℕ) (awards : List ℕ) (pot : Pot) (index : ℕ)
    → length awards ≡ 10 → index < 10 → IsPotAt hands unit button seats pot → IsSole pot index
    → get_or (award_pot hands unit button seats awards pot) index 0 ≡ get_or awards index 0 + pot.amount
award_pot-sole hands unit button seats awards pot index ten within at alone =
    let grows = one-grows awards (award_pot hands unit button seats awards pot) index
    (length-award_pot hands unit button seats awards pot) (omega (arith, ten, within))
    (λ other differ. award_pot-other hands unit button seats awards pot other (alone other differ)) in
    let all = sum-award_pot hands unit button seats awards pot ten at in
    omega (arith, grows, all)

-- Who alone may win the last of all pots is awarded at least that.
pub awards_of-sole : (hands : List (Option Hand)) (unit button seats : ℕ) (pots below : List Pot) (pot : Pot)
    (index : ℕ) → pots ≡ below ++ pot ∷ [] → index < 10 → IsPotAt hands unit button seats pot → IsSole pot index
    → pot.amount ≤ get_or (awards_of hands unit button seats pots) index 0
unfolding awards_of
awards_of-sole hands unit button seats pots below pot index last within at alone =
    let before = awards_of hands unit button seats below in
    let own = award_pot-sole hands unit button seats before pot index
    (length-awards_of hands unit button seats below) within at alone in
    let all : awards_of hands unit button seats pots ≡ award_pot hands unit button seats before pot =
    ap (awards_of hands unit button seats) last
    ∙ fold-append (award_pot hands unit button seats) (replicate 10 0) below (pot ∷ []) in
    let same = ap (λ (awards : List ℕ). get_or awards index 0) all in
    omega (arith, own, same)
