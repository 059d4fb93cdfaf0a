-- How many ranks pass a test, and how lists of them compare.
use Rattle.std.proofs.Common.{◌≡◌, ℕ, zero, suc, ◌+◌, ◌<◌, ◌≤◌, inl, inr, Bool, true, false, ◌&&◌, ◌||◌, not, cond, eqb, leb, ltb, List, [], ◌∷◌, length, min, refl, sym, ap, ap₂, ◌∙◌, eqb-true, arith}
use Rattle.std.specs.Prelude.{map, Some, None, if◌then◌else◌}
use Rattle.std.specs.List.{list_all}
use Rattle.std.proofs.Math.Bool.{and-false}
use Rattle.std.proofs.lemmas.Bool.{eq-eqb}
use Rattle.std.proofs.lemmas.Bool.Decides.{nat_tests}
use Rattle.card_set.specs.declared.card.Card.{Card}
use Rattle.card_choices.proofs.ListOrder.{Upto}
use Rattle.rulebook.proofs.Tests.{at_most_one}
use Rattle.low_rank.specs.Lows.{low_rank, are_different, in_falling_order, low_value}
use Rattle.low_rank.specs.LowRanks.{has_low, count_below, least, falling, five_least}

-- tests that agree below a rank count alike
pub count-same : (one other : ℕ → Bool) (n : ℕ) → ((rank : ℕ) → rank < n → one rank ≡ other rank)
    → count_below one n ≡ count_below other n
unfolding count_below
count-same one other zero same = refl
count-same one other (suc n) same =
    ap₂ (λ count passes. count + cond passes 1 0) (count-same one other n (λ rank below. same rank (omega arith)))
    (same n (omega arith))

pub falling-same : (one other : ℕ → Bool) (n : ℕ) → ((rank : ℕ) → rank < n → one rank ≡ other rank)
    → falling one n ≡ falling other n
unfolding falling
falling-same one other zero same = refl
falling-same one other (suc n) same =
    ap₂ (λ ranks passes. cond passes (n ∷ ranks) ranks)
    (falling-same one other n (λ rank below. same rank (omega arith))) (same n (omega arith))

pub least-same : (count : ℕ) (one other : ℕ → Bool) (n : ℕ) → ((rank : ℕ) → rank < n → one rank ≡ other rank)
    → (rank : ℕ) → rank < n → least count one rank ≡ least count other rank
unfolding least
least-same count one other n same rank within =
    ap₂ (λ passes lower. passes && ltb lower count) (same rank within)
    (count-same one other rank (λ lower below. same lower (omega arith)))

pub five_least-same : (one other : ℕ → Bool) → ((rank : ℕ) → rank < 9 → one rank ≡ other rank)
    → five_least one ≡ five_least other
unfolding five_least
five_least-same one other same =
    ap₂ (λ count ranks. if leb 5 count then Some ranks else None) (count-same one other 9 same)
    (falling-same (least 5 one) (least 5 other) 9 (least-same 5 one other 9 same))

-- where what passes one test passes another, no more pass the first
pub count-within : (one other : ℕ → Bool) (n : ℕ)
    → ((rank : ℕ) → rank < n → one rank ≡ true → other rank ≡ true) → count_below one n ≤ count_below other n
unfolding count_below
count-within one other zero within = omega arith
count-within one other (suc n) within =
    let lower = count-within one other n (λ rank below. within rank (omega arith)) in
    elim (one n) as (λ b. one n ≡ b → count_below one n + cond b 1 0 ≤ count_below other n + cond (other n) 1 0) [
      | true ↦ λ passes. rw (within n (omega arith) passes) (omega arith)
      | false ↦ λ fails. omega arith
    ] refl

-- those that pass a test in two parts, and in three
pub count-two : (whole one two : ℕ → Bool) (n : ℕ)
    → ((rank : ℕ) → cond (whole rank) 1 0 ≡ cond (one rank) 1 0 + cond (two rank) 1 0)
    → count_below whole n ≡ count_below one n + count_below two n
unfolding count_below
count-two whole one two zero parts = refl
count-two whole one two (suc n) parts =
    let lower = count-two whole one two n parts in
    let here = parts n in
    omega arith

pub count-parts : (whole one two three : ℕ → Bool) (n : ℕ)
    → ((rank : ℕ) → cond (whole rank) 1 0 ≡ cond (one rank) 1 0 + (cond (two rank) 1 0 + cond (three rank) 1 0))
    → count_below whole n ≡ count_below one n + (count_below two n + count_below three n)
unfolding count_below
count-parts whole one two three zero parts = refl
count-parts whole one two three (suc n) parts =
    let lower = count-parts whole one two three n parts in
    let here = parts n in
    omega arith

-- no more pass below a lower rank
pub count-lower : (test : ℕ → Bool) (k n : ℕ) → k ≤ n → count_below test k ≤ count_below test n
unfolding count_below
count-lower test k zero low = let same : k ≡ 0 = omega arith in rw same (omega arith)
count-lower test k (suc n) low =
    elim (eqb k (suc n)) as (λ b. eqb k (suc n) ≡ b → count_below test k ≤ count_below test n + cond (test n) 1 0) [
      | true ↦ λ same. rw (eqb-true k (suc n) same) (omega arith)
      | false ↦ λ other. let lower = count-lower test k n (grind (arith, nat_tests)) in omega arith
    ] refl

-- the least so many are so many, or all
pub count-least : (count : ℕ) (test : ℕ → Bool) (n : ℕ) → count_below (least count test) n ≡ min count
    (count_below test n)
unfolding count_below least
count-least count test zero = omega arith
count-least count test (suc n) =
    let lower = count-least count test n in
    elim (test n) as (λ b. count_below (least count test) n + cond (b && ltb (count_below test n) count) 1 0
    ≡ min count (count_below test n + cond b 1 0)) [
      | true ↦ grind (arith, nat_tests)
      | false ↦ omega arith
    ]

-- ranks below one come no later than a list that begins with a rank from there on
falling-lower : (test : ℕ → Bool) (n rank : ℕ) (ranks : List ℕ) → n ≤ rank → Upto (falling test n) (rank ∷ ranks)
unfolding falling
falling-lower test zero rank ranks low = tt
falling-lower test (suc n) rank ranks low =
    elim (test n) as (λ b. Upto (cond b (n ∷ falling test n) (falling test n)) (rank ∷ ranks)) [
      | true ↦ inl (omega arith)
      | false ↦ falling-lower test n rank ranks (omega arith)
    ]

-- of two sets of as many ranks, the one that has no fewer below each rank comes no later
pub counts-upto : (one other : ℕ → Bool) (n : ℕ)
    → ((rank : ℕ) → rank ≤ n → count_below other rank ≤ count_below one rank)
    → count_below one n ≡ count_below other n → Upto (falling one n) (falling other n)
unfolding count_below falling
counts-upto one other zero more same = tt
counts-upto one other (suc n) more same =
    let lower : (rank : ℕ) → rank ≤ n → count_below other rank ≤ count_below one rank =
    λ rank below. more rank (omega arith) in
    let here = more n (omega arith) in
    (elim (one n) as (λ b. count_below one n + cond b 1 0 ≡ count_below other n + cond (other n) 1 0
    → Upto (cond b (n ∷ falling one n) (falling one n)) (cond (other n) (n ∷ falling other n) (falling other n))) [
      | true ↦ elim (other n) as (λ b. count_below one n + 1 ≡ count_below other n + cond b 1 0
          → Upto (n ∷ falling one n) (cond b (n ∷ falling other n) (falling other n))) [
            | true ↦ λ alike. inr (refl, counts-upto one other n lower (omega arith))
            | false ↦ λ alike. absurd (omega arith)
          ]
      | false ↦ elim (other n) as (λ b. count_below one n + 0 ≡ count_below other n + cond b 1 0
          → Upto (falling one n) (cond b (n ∷ falling other n) (falling other n))) [
            | true ↦ λ alike. falling-lower one n n (falling other n) (omega arith)
            | false ↦ λ alike. counts-upto one other n lower (omega arith)
          ]
    ]) same

-- a rank more
pub count-more : (test : ℕ → Bool) (rank n : ℕ)
    → count_below (λ r. eqb rank r || test r) n ≡ count_below test n + cond (not (test rank) && ltb rank n) 1 0
unfolding count_below
count-more test rank zero = grind (arith, nat_tests)
count-more test rank (suc n) =
    let lower = count-more test rank n in
    elim (eqb rank n) as (λ b. eqb rank n ≡ b → count_below (λ r. eqb rank r || test r) n + cond (b || test n) 1 0
    ≡ count_below test n + cond (test n) 1 0 + cond (not (test rank) && ltb rank (suc n)) 1 0) [
      | true ↦ λ same. let is = eqb-true rank n same in grind (arith, nat_tests)
      | false ↦ λ other. grind (arith, nat_tests)
    ] refl

-- no card counts as 0
low-none : (cards : List Card) → has_low cards 0 ≡ false
low-none [] = refl
low-none (card ∷ cards) =
    let from = card.from_two in
    let here : eqb (low_rank card) 0 ≡ false = grind (arith, nat_tests) in
    rw here (low-none cards)

-- the low ranks of some cards in falling order
falling-low : (cards : List Card) → in_falling_order (map low_rank cards) ≡ falling (has_low cards) 9
unfolding in_falling_order falling
falling-low cards = rw (low-none cards) refl

-- a card more
low-more : (card : Card) (cards : List Card) → count_below (has_low (card ∷ cards)) 9
    ≡ count_below (has_low cards) 9 + cond (not (has_low cards (low_rank card)) && leb (low_rank card) 8) 1 0
low-more card cards =
    count-more (has_low cards) (low_rank card) 9
    ∙ ap (λ low. count_below (has_low cards) 9 + cond (not (has_low cards (low_rank card)) && low) 1 0)
    (up_to_eight (low_rank card))
  where
    up_to_eight : (rank : ℕ) → ltb rank 9 ≡ leb rank 8
    up_to_eight rank = grind (arith, nat_tests)

-- there are no more low ranks than cards, and as many where the cards qualify
pub low-many : (cards : List Card) → (count_below (has_low cards) 9 ≤ length cards)
    × ((are_different (map low_rank cards) && list_all (λ rank. leb rank 8) (map low_rank cards))
    ≡ eqb (count_below (has_low cards) 9) (length cards))
unfolding count_below
low-many [] = (omega arith, refl)
low-many (card ∷ cards) =
    let later = low-many cards in
    let more = low-more card cards in
    let one = at_most_one (not (has_low cards (low_rank card)) && leb (low_rank card) 8) in (
      omega (arith, more, later.0, one),
      qualify (has_low cards (low_rank card)) (are_different (map low_rank cards)) (leb (low_rank card) 8)
          (list_all (λ rank. leb rank 8) (map low_rank cards)) (count_below (has_low cards) 9) (length cards) later.0
          later.1
          ∙ ap (λ many. eqb many (suc (length cards))) (sym more),
    )
  where
    qualify : (again different low all : Bool) (many n : ℕ) → many ≤ n → (different && all) ≡ eqb many n
        → ((not again && different) && (low && all)) ≡ eqb (many + cond (not again && low) 1 0) (suc n)
    qualify true different low all many n few is = grind (arith, nat_tests)
    qualify false different true all many n few is = is ∙ grind (arith, nat_tests)
    qualify false different false all many n few is = and-false different ∙ grind (arith, nat_tests)

-- cards qualify where they have as many low ranks as there are cards
pub low_value-counts : (cards : List Card) → low_value cards
    ≡ (if eqb (count_below (has_low cards) 9) (length cards) then Some (falling (has_low cards) 9) else None)
unfolding low_value
low_value-counts cards =
    ap₂ (λ qualify ranks. if qualify then Some ranks else None) (low-many cards).1 (falling-low cards)

-- five cards of as many low ranks
pub low_value-whole : (cards : List Card) → count_below (has_low cards) 9 ≡ length cards
    → low_value cards ≡ Some (falling (has_low cards) 9)
low_value-whole cards whole =
    low_value-counts cards
    ∙ ap (λ qualify. if qualify then Some (falling (has_low cards) 9) else None) (eq-eqb _ _ whole)
