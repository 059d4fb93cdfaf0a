-- The best over all choices of so many cards, by the low ranks of each.
use Rattle.std.proofs.Common.{◌≡◌, ℕ, zero, suc, ◌+◌, ◌<◌, Bool, true, false, ◌&&◌, ◌||◌, not, cond, eqb, ltb, List, [], ◌∷◌, length, refl, sym, ap, ap₂, ◌∙◌, subst, eqb-true, arith}
use Rattle.std.specs.Prelude.{Option, None}
use Rattle.std.proofs.Math.Bool.{and-false, and-true}
use Rattle.std.proofs.lemmas.Bool.{and_parts, eq-eqb, not-true}
use Rattle.std.proofs.lemmas.Bool.Decides.{nat_tests}
use Rattle.card_set.specs.declared.card.Card.{Card}
use Rattle.card_choices.specs.Choices.{choices}
use Rattle.card_choices.proofs.Combined.{choices-cons}
use Rattle.rulebook.proofs.Sides.{others_alone, others_fail}
use Rattle.low_rank.specs.Lows.{low_rank, better_low}
use Rattle.low_rank.specs.LowRanks.{has_low, count_below}
use Rattle.low_rank.proofs.CountLaws.{count-same, count-within, count-more}
use Rattle.low_rank.proofs.LowLaws.{IsNoWorse, better-combining, best_by, no_worse-none, no_worse-both, no_worse-left, no_worse-right}

-- each low rank of some cards is one of others
abbrev pub AreAmong : List Card → List Card → Type 0
AreAmong some cards = (rank : ℕ) → has_low some rank ≡ true → has_low cards rank ≡ true

-- what is no worse than the value of each choice is no worse than the best
pub choices-bound : (value : List Card → Option (List ℕ)) (n : ℕ) (cards : List Card) (low : Option (List ℕ))
    → ((some : List Card) → AreAmong some cards → length some ≡ n → IsNoWorse low (value some))
    → IsNoWorse low (best_by value (choices n cards))
choices-bound value zero cards low bound =
    no_worse-both low (value []) None (bound [] (λ rank there. absurd cc) refl) (no_worse-none low)
choices-bound value (suc n) [] low bound = no_worse-none low
choices-bound value (suc n) (card ∷ cards) low bound =
    subst (IsNoWorse low) (sym (choices-cons better_low None better-combining value n card cards))
    (no_worse-both low _ _
    (choices-bound (λ some. value (card ∷ some)) n cards low (λ some among many. bound (card ∷ some) (λ rank. with_first
    (eqb (low_rank card) rank) (has_low some rank) (has_low cards rank) (among rank)) (ap suc many)))
    (choices-bound value (suc n) cards low (λ some among many. bound some (λ rank there. behind
    (eqb (low_rank card) rank) (has_low cards rank) (among rank there)) many)))
  where
    with_first : (first some all : Bool) → (some ≡ true → all ≡ true) → (first || some) ≡ true → (first || all) ≡ true
    with_first true some all among there = refl
    with_first false some all among there = among there

    behind : (first all : Bool) → all ≡ true → (first || all) ≡ true
    behind true all there = refl
    behind false all there = there

-- where none of the ranks below one passes, none is counted; and so none passes where none is counted
none-passes : (test : ℕ → Bool) (n : ℕ) → count_below test n ≡ 0 → (rank : ℕ) → rank < n → test rank ≡ false
unfolding count_below
none-passes test zero none rank below = absurd (omega arith)
none-passes test (suc n) none rank below =
    elim (eqb rank n) as (λ b. eqb rank n ≡ b → test rank ≡ false) [
      | true ↦ λ same. rw (eqb-true rank n same) (fails (test n) (omega arith))
      | false ↦ λ other. none-passes test n (omega arith) rank (grind (arith, nat_tests))
    ] refl
  where
    fails : (passes : Bool) → ◌≡◌ {A = ℕ} (cond passes 1 0) 0 → passes ≡ false
    fails true none = absurd (omega arith)
    fails false none = refl

-- a rank of some and the others of them are all
taken-same : (ranks : ℕ → Bool) (first rank : ℕ) → ranks first ≡ true
    → (eqb first rank || (ranks rank && not (eqb first rank))) ≡ ranks rank
taken-same ranks first rank there =
    elim (eqb first rank) as (λ b. eqb first rank ≡ b → (b || (ranks rank && not b)) ≡ ranks rank) [
      | true ↦ λ same. sym (subst (λ r. ranks r ≡ true) (eqb-true first rank same) there)
      | false ↦ λ other. and-true (ranks rank)
    ] refl

taken-count : (ranks : ℕ → Bool) (first n : ℕ) → ranks first ≡ true → ltb first n ≡ true
    → count_below ranks n ≡ count_below (λ rank. ranks rank && not (eqb first rank)) n + 1
taken-count ranks first n there below =
    let out : (ranks first && not (eqb first first)) ≡ false =
    ap (λ same. ranks first && not same) (eq-eqb first first refl) ∙ and-false (ranks first) in
    sym (count-same _ ranks n (λ rank within. taken-same ranks first rank there))
    ∙ count-more (λ rank. ranks rank && not (eqb first rank)) first n
    ∙ ap₂ (λ again low. count_below (λ rank. ranks rank && not (eqb first rank)) n + cond (not again && low) 1 0) out
    below

none-counted : count_below (λ rank. false) 9 ≡ 0
unfolding count_below
none-counted = refl

-- where the cards have so many low ranks, the best is no worse than a choice of just these ranks
pub choices-reach : (value : List Card → Option (List ℕ)) (n : ℕ) (cards : List Card) (ranks : ℕ → Bool)
    (low : Option (List ℕ)) → count_below ranks 9 ≡ n
    → ((rank : ℕ) → rank < 9 → ranks rank ≡ true → has_low cards rank ≡ true)
    → ((some : List Card) → length some ≡ n → ((rank : ℕ) → rank < 9 → has_low some rank ≡ ranks rank)
    → IsNoWorse (value some) low)
    → IsNoWorse (best_by value (choices n cards)) low
choices-reach value zero cards ranks low many there reach =
    no_worse-left (value []) None low (reach [] refl (λ rank below. sym (none-passes ranks 9 many rank below)))
choices-reach value (suc n) [] ranks low many there reach =
    let few = count-within ranks (λ rank. false) 9 there in absurd (omega (arith, few, none-counted))
choices-reach value (suc n) (card ∷ cards) ranks low many there reach =
    let first = low_rank card in
    subst (λ best. IsNoWorse best low) (sym (choices-cons better_low None better-combining value n card cards))
    (elim (ranks first && ltb first 9) as (λ b. (ranks first && ltb first 9) ≡ b → IsNoWorse
    (better_low (best_by (λ some. value (card ∷ some)) (choices n cards)) (best_by value (choices (suc n) cards))) low) [
      | true ↦ λ taken.
          let is = and_parts (ranks first) (ltb first 9) taken in
          let fewer = taken-count ranks first 9 is.0 is.1 in
          no_worse-left _ _ low
          (choices-reach (λ some. value (card ∷ some)) n cards (λ rank. ranks rank && not (eqb first rank)) low
          (omega arith)
          (λ rank below here. let both = and_parts (ranks rank) (not (eqb first rank)) here in
          others_alone (eqb first rank) (has_low cards rank) (there rank below both.0) (not-true _ both.1))
          (λ some few same. reach (card ∷ some) (ap suc few)
          (λ rank below. ap (λ later. eqb first rank || later) (same rank below) ∙ taken-same ranks first rank is.0)))
      | false ↦ λ passed. no_worse-right _ _ low
          (choices-reach value (suc n) cards ranks low many
          (λ rank below here. others_alone (eqb first rank) (has_low cards rank) (there rank below here)
          (apart ranks first rank here below passed)) reach)
    ] refl)
  where
    apart : (ranks : ℕ → Bool) (first rank : ℕ) → ranks rank ≡ true → rank < 9 → (ranks first && ltb first 9) ≡ false
        → eqb first rank ≡ false
    apart ranks first rank here below passed =
        elim (eqb first rank) as (λ b. eqb first rank ≡ b → b ≡ false) [
          | true ↦ λ same.
              let is = eqb-true first rank same in
              let high = others_fail (ranks first) (ltb first 9) passed (ap ranks is ∙ here) in
              absurd (grind (arith, nat_tests))
          | false ↦ λ other. refl
        ] refl
