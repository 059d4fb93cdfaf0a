-- The value of five cards by how often their ranks occur.
use Rattle.std.proofs.Common.{◌≡◌, ℕ, ◌<◌, ◌≤◌, inl, inr, Bool, true, false, leb, List, ◌∷◌, length, Some, None, refl, sym, ◌∙◌, arith}
use Rattle.std.specs.Prelude.{Option, map}
use Rattle.std.proofs.lemmas.Bool.Decides.{nat_tests}
use Rattle.card_set.specs.declared.card.Card.{Card}
use Rattle.card_choices.proofs.ListOrder.{Upto}
use Rattle.hand_rank.specs.Values.{category_of, count_of_rank, distinct_ranks, run_top, are_of_one_suit, value_of_distinct, value_by, five_card_value}
use Rattle.hand_rank.proofs.Sections.{sections-fall, sections-sum, IsShape, shape-of}
use Rattle.hand_rank.proofs.CardCounts.{other-rank, distinct_ranks-sections, total-cards}
use Rattle.hand_rank.proofs.CountLaws.{value-by}

-- lists that are the same begin with the same number
pub head : {x y : ℕ} {xs ys : List ℕ} → x ∷ xs ≡ y ∷ ys → x ≡ y
head is = cc

-- and go on with the same numbers
pub tail : {x y : ℕ} {xs ys : List ℕ} → x ∷ xs ≡ y ∷ ys → xs ≡ ys
tail is = cc

-- how often the distinct ranks occur, in their order
abbrev pub often_of : List Card → List ℕ
often_of cards = map (count_of_rank cards) (distinct_ranks cards)

-- five cards of which no rank occurs more often than a deck has it
pub record AreShown (five : List Card) : Type 0 where
  pub count : length five ≡ 5
  pub few : (r : ℕ) → count_of_rank five r ≤ 4

-- five cards have their ranks in one of six ways, by how often they occur: 4+1, 3+2, 3+1+1, 2+2+1, 2+1+1+1 or five
-- times once
pub shown-shape : (five : List Card) → AreShown five → IsShape (often_of five)
shown-shape five shown =
    let few : (r : ℕ) → r < 15 → count_of_rank five r ≤ 4 = λ r within. shown.few r in
    let is = sym (distinct_ranks-sections five) in
    shape-of (often_of five) (sections-fall 4 4 (distinct_ranks five) (count_of_rank five) few few is)
    (sections-sum 4 (distinct_ranks five) (count_of_rank five) few is ∙ total-cards five ∙ shown.count)

-- a rank that occurs among some cards is no lower than two
pub occurs-from_two : (cards : List Card) (r : ℕ) → 1 ≤ count_of_rank cards r → 2 ≤ r
occurs-from_two cards r some =
    elim (leb 2 r) as (λ b. leb 2 r ≡ b → 2 ≤ r) [
      | true ↦ λ from. grind (arith, nat_tests)
      | false ↦ λ low. let none = other-rank cards r (inr (grind (arith, nat_tests))) in absurd (omega arith)
    ] refl

-- the value from how often ranks occur
pub shown-value : (five : List Card) (often : List ℕ) → often_of five ≡ often
    → value_by (category_of often) (run_top (distinct_ranks five)) (are_of_one_suit five) (distinct_ranks five)
    ≡ five_card_value five
shown-value five often is = value-by five (distinct_ranks five) often (category_of often) refl (sym is) refl

-- five distinct ranks have no lower value than their list alone
pub distinct-above : (top : Option ℕ) (one : Bool) (ranks others : List ℕ) → Upto others ranks
    → Upto (0 ∷ others) (value_of_distinct top one ranks)
distinct-above (Some top) true ranks others up = inl (omega arith)
distinct-above (Some top) false ranks others up = inl (omega arith)
distinct-above None true ranks others up = inl (omega arith)
distinct-above None false ranks others up = inr (refl, up)
