-- How often ranks occur among cards, and among those of a suit.
use Rattle.std.proofs.Common.{◌≡◌, ℕ, zero, suc, ◌+◌, ◌<◌, ◌≤◌, ◌⊎◌, inr, Bool, true, false, ◌&&◌, cond, eqb, List, [], ◌∷◌, ◌++◌, length, refl, sym, ap, ap₂, ◌∙◌, subst, zero-add, zero-le, eqb-true, eq-eqb, append_assoc, append-nil, arith}
use Rattle.std.specs.Prelude.{filter}
use Rattle.std.specs.List.{list_all, list_any}
use Rattle.std.proofs.lemmas.Bool.{and_parts, or_parts}
use Rattle.std.proofs.lemmas.Bool.Decides.{nat_tests}
use Rattle.std.proofs.lemmas.List.Elements.{filter-append}
use Rattle.std.proofs.lemmas.List.Sums.{sum_by-append}
use Rattle.card_set.specs.declared.card.Card.{Card}
use Rattle.card_set.specs.Decks.{is_same_card, repeats_a_card}
use Rattle.card_set.proofs.DeckLaws.{repeats_none-from_AllPairs}
use Rattle.card_choices.specs.Choices.{AreDistinct}
use Rattle.hand_rank.specs.Values.{ranks_down, count_of_rank, ranks_that_occur, distinct_ranks, are_of_one_suit}
use Rattle.hand_rank.specs.Cards.{count_of_suit, AreOnce}
use Rattle.rulebook.proofs.Tests.{count_by-cons}
use Rattle.hand_rank.proofs.CountLaws.{count_of_rank-cons}
use Rattle.hand_rank.specs.Sets.{falling}
use Rattle.hand_rank.proofs.Sections.{sections, total, total-same}

-- the numbers below a bound, from the highest down
unfoldable down : ℕ → List ℕ
down zero = []
down (suc n) = n ∷ down n

filter-down : (test : ℕ → Bool) (n : ℕ) → filter test (down n) ≡ falling test n
unfolding falling down
filter-down test zero = refl
filter-down test (suc n) = ap (λ ranks. cond (test n) (n ∷ ranks) ranks) (filter-down test n)

filter-low : (test : ℕ → Bool) (ranks : List ℕ) → test 1 ≡ false → test 0 ≡ false
    → filter test (ranks ++ 1 ∷ 0 ∷ []) ≡ filter test ranks
filter-low test ranks one none =
    filter-append test ranks (1 ∷ 0 ∷ []) ∙ rw (one, none) (append-nil (filter test ranks))

filter-falling : (test : ℕ → Bool) → test 1 ≡ false → test 0 ≡ false → filter test ranks_down ≡ falling test 15
unfolding down
filter-falling test one none = sym (filter-low test ranks_down one none) ∙ filter-down test 15

-- no card has a rank below 2 or above 14
pub other-rank : (cards : List Card) (r : ℕ) → (15 ≤ r) ⊎ (r < 2) → count_of_rank cards r ≡ 0
other-rank [] r out = refl
other-rank (card ∷ cards) r out =
    let later = other-rank cards r out in
    let top = card.up_to_ace in
    let least = card.from_two in
    let other : eqb card.rank r ≡ false = grind (arith, nat_tests) in
    count_of_rank-cons card cards r ∙ rw other (omega arith)

-- the ranks that occur so often
pub that_occur-falling : (cards : List Card) (times : ℕ) → 1 ≤ times
    → ranks_that_occur cards times ≡ falling (λ r. eqb (count_of_rank cards r) times) 15
unfolding ranks_that_occur
that_occur-falling cards times some =
    let one = other-rank cards 1 (inr (omega arith)) in
    let none = other-rank cards 0 (inr (omega arith)) in
    filter-falling (λ r. eqb (count_of_rank cards r) times) (grind (arith, nat_tests)) (grind (arith, nat_tests))

-- the distinct ranks are those that occur four times, and so on down to once
pub distinct_ranks-sections : (cards : List Card) → distinct_ranks cards ≡ sections 4 (count_of_rank cards)
unfolding distinct_ranks sections
distinct_ranks-sections cards =
    ap₂ (λ x y. x ++ y) (ap₂ (λ x y. x ++ y) (ap₂ (λ x y. x ++ y)
    (that_occur-falling cards 4 (omega arith)) (that_occur-falling cards 3 (omega arith)))
    (that_occur-falling cards 2 (omega arith))) (that_occur-falling cards 1 (omega arith))
    ∙ joined (falling (λ r. eqb (count_of_rank cards r) 4) 15) (falling (λ r. eqb (count_of_rank cards r) 3) 15)
    (falling (λ r. eqb (count_of_rank cards r) 2) 15) (falling (λ r. eqb (count_of_rank cards r) 1) 15)
  where
    joined : (a b c d : List ℕ) → ((a ++ b) ++ c) ++ d ≡ a ++ (b ++ (c ++ (d ++ [])))
    joined a b c d = simp (append_assoc, append-nil)

pub total-add : (f g : ℕ → ℕ) (n : ℕ) → total (λ r. f r + g r) n ≡ total f n + total g n
unfolding total
total-add f g zero = refl
total-add f g (suc n) = let later = total-add f g n in omega arith

total-zero : (n : ℕ) → total (λ r. 0) n ≡ 0
unfolding total
total-zero zero = refl
total-zero (suc n) = let later = total-zero n in omega arith

total-above : (rank n : ℕ) → n ≤ rank → total (λ r. cond (eqb rank r) 1 0) n ≡ 0
unfolding total
total-above rank zero high = refl
total-above rank (suc n) high =
    let later = total-above rank n (omega arith) in
    let other : eqb rank n ≡ false = grind (arith, nat_tests) in
    rw other (omega (arith, later))

pub total-one : (rank n : ℕ) → rank < n → total (λ r. cond (eqb rank r) 1 0) n ≡ 1
unfolding total
total-one rank zero below = absurd (omega arith)
total-one rank (suc n) below =
    elim (eqb rank n) as (λ t. eqb rank n ≡ t → cond t 1 0 + total (λ r. cond (eqb rank r) 1 0) n ≡ 1) [
      | true ↦ λ same. let is = eqb-true rank n same in let none = total-above rank n (omega arith) in
          omega (arith, none)
      | false ↦ λ other. let later = total-one rank n (grind (arith, nat_tests)) in omega (arith, later)
    ] refl

-- all ranks together occur as often as there are cards
pub total-cards : (cards : List Card) → total (count_of_rank cards) 15 ≡ length cards
total-cards [] = total-zero 15
total-cards (card ∷ cards) =
    let top = card.up_to_ace in
    let later = total-cards cards in
    let one = total-one card.rank 15 (omega arith) in
    let split = total-same (count_of_rank (card ∷ cards)) (λ r. cond (eqb card.rank r) 1 0 + count_of_rank cards r) 15
    (λ r within. count_of_rank-cons card cards r) in
    let both = total-add (λ r. cond (eqb card.rank r) 1 0) (count_of_rank cards) 15 in
    omega (arith, split, both, one, later)

-- a card put before others counts once more for its own suit and rank, and not for any other
pub count_of_suit-cons : (suit r : ℕ) (card : Card) (cards : List Card)
    → count_of_suit (card ∷ cards) suit r
    ≡ cond (eqb card.suit suit && eqb card.rank r) 1 0 + count_of_suit cards suit r
count_of_suit-cons suit r card cards = count_by-cons (λ (c : Card). eqb c.suit suit && eqb c.rank r) card cards

-- how often a suit has a rank among some cards and others
pub suit-joined : (cards more : List Card) (suit r : ℕ)
    → count_of_suit (cards ++ more) suit r ≡ count_of_suit cards suit r + count_of_suit more suit r
suit-joined cards more suit r = sum_by-append (λ (c : Card). cond (eqb c.suit suit && eqb c.rank r) 1 0) cards more

-- the cards of a rank are of four suits
pub by-suits : (cards : List Card) (r : ℕ)
    → count_of_rank cards r
    ≡ count_of_suit cards 0 r + count_of_suit cards 1 r + count_of_suit cards 2 r + count_of_suit cards 3 r
by-suits [] r = refl
by-suits (card ∷ cards) r =
    let later = by-suits cards r in
    let suit = card.one_of_four in
    let a = count_of_suit-cons 0 r card cards in
    let b = count_of_suit-cons 1 r card cards in
    let c = count_of_suit-cons 2 r card cards in
    let d = count_of_suit-cons 3 r card cards in
    let all = count_of_rank-cons card cards r in
    rw (all, a, b, c, d) (one-suit card.suit r card.rank _ _ _ _ _ suit later)
  where
    one-suit : (suit r rank n x y z w : ℕ) → suit < 4 → n ≡ x + y + z + w
        → cond (eqb rank r) 1 0 + n ≡ cond (eqb suit 0 && eqb rank r) 1 0 + x +
        (cond (eqb suit 1 && eqb rank r) 1 0 + y) + (cond (eqb suit 2 && eqb rank r) 1 0 + z) +
        (cond (eqb suit 3 && eqb rank r) 1 0 + w)
    one-suit suit r rank n x y z w few less = grind (arith, nat_tests)

-- of cards that do not repeat, each suit has each rank once at most
not-again : (card : Card) (cards : List Card) (suit r : ℕ) → card.suit ≡ suit → card.rank ≡ r
    → list_any (is_same_card card) cards ≡ false → count_of_suit cards suit r ≡ 0
not-again card [] suit r of_suit of_rank none = refl
not-again card (other ∷ cards) suit r of_suit of_rank none =
    let parts = or_parts (is_same_card card other) (list_any (is_same_card card) cards) none in
    let later = not-again card cards suit r of_suit of_rank parts.1 in
    count_of_suit-cons suit r other cards
    ∙ ap₂ (λ x y. cond x 1 0 + y) (differs card.rank card.suit other.rank other.suit suit r of_suit of_rank parts.0)
    later
  where
    differs : (rank suit_of other other_suit suit r : ℕ) → suit_of ≡ suit → rank ≡ r
        → (eqb rank other && eqb suit_of other_suit) ≡ false → (eqb other_suit suit && eqb other r) ≡ false
    differs rank suit_of other other_suit suit r of_suit of_rank not_same = grind (arith, nat_tests)

pub suit-once : (cards : List Card) (suit r : ℕ) → repeats_a_card cards ≡ false → count_of_suit cards suit r ≤ 1
suit-once [] suit r none = zero-le
suit-once (card ∷ cards) suit r none =
    let parts = or_parts (list_any (is_same_card card) cards) (repeats_a_card cards) none in
    let later = suit-once cards suit r parts.1 in
    let all = count_of_suit-cons suit r card cards in
    elim (eqb card.suit suit && eqb card.rank r) as (λ b. (eqb card.suit suit && eqb card.rank r) ≡ b
    → count_of_suit (card ∷ cards) suit r ≤ 1) [
      | true ↦ λ same.
          let alone = not-again card cards suit r (grind (arith, nat_tests)) (grind (arith, nat_tests)) parts.0 in
          let here : count_of_suit (card ∷ cards) suit r ≡ 1 + count_of_suit cards suit r = all
          ∙ ap (λ b. cond b 1 0 + count_of_suit cards suit r) same in
          omega arith
      | false ↦ λ other.
          let here : count_of_suit (card ∷ cards) suit r ≡ 0 + count_of_suit cards suit r = all
          ∙ ap (λ b. cond b 1 0 + count_of_suit cards suit r) other in
          omega arith
    ] refl

-- among cards that all differ, each suit has each rank once at most
pub distinct-once : (cards : List Card) → AreDistinct cards → AreOnce cards
distinct-once cards apart suit r = suit-once cards suit r (repeats_none-from_AllPairs cards apart)

-- where each suit has each rank once at most, no rank occurs more than four times
pub once-few : (cards : List Card) (r : ℕ) → AreOnce cards → count_of_rank cards r ≤ 4
once-few cards r once =
    let all = by-suits cards r in
    let a = once 0 r in
    let b = once 1 r in
    let c = once 2 r in
    let d = once 3 r in
    omega arith

-- the ranks of the cards of a suit
pub suited-rank : (suit : ℕ) (cards : List Card) (r : ℕ)
    → count_of_rank (filter (λ c. eqb c.suit suit) cards) r ≡ count_of_suit cards suit r
suited-rank suit [] r = refl
suited-rank suit (card ∷ cards) r =
    let later = suited-rank suit cards r in
    let all = count_of_suit-cons suit r card cards in
    elim (eqb card.suit suit) as (λ b. eqb card.suit suit ≡ b
    → count_of_rank (cond b (card ∷ filter (λ c. eqb c.suit suit) cards) (filter (λ c. eqb c.suit suit) cards)) r
    ≡ count_of_suit (card ∷ cards) suit r) [
      | true ↦ λ is. count_of_rank-cons card (filter (λ c. eqb c.suit suit) cards) r
          ∙ ap (λ n. cond (eqb card.rank r) 1 0 + n) later
          ∙ sym (all ∙ ap (λ b. cond (b && eqb card.rank r) 1 0 + count_of_suit cards suit r) is)
      | false ↦ λ is. later
          ∙ sym (all ∙ ap (λ b. cond (b && eqb card.rank r) 1 0 + count_of_suit cards suit r) is
          ∙ zero-add (count_of_suit cards suit r))
    ] refl

-- where all cards have a suit, it has all ranks
pub all-suited : (suit : ℕ) (cards : List Card) (r : ℕ) → list_all (λ (card : Card). eqb card.suit suit) cards ≡ true
    → count_of_suit cards suit r ≡ count_of_rank cards r
all-suited suit [] r all = refl
all-suited suit (card ∷ cards) r all =
    let parts = and_parts (eqb card.suit suit) (list_all (λ (c : Card). eqb c.suit suit) cards) all in
    count_of_suit-cons suit r card cards
    ∙ ap₂ (λ b n. cond (b && eqb card.rank r) 1 0 + n) parts.0 (all-suited suit cards r parts.1)
    ∙ sym (count_of_rank-cons card cards r)

-- all cards have a suit where they are of one, and the other way round
pub one_suit-all : (cards : List Card) → are_of_one_suit cards ≡ true
    → (suit : ℕ) × (suit < 4) × (list_all (λ (card : Card). eqb card.suit suit) cards ≡ true)
one_suit-all [] one = (0, omega arith, refl)
one_suit-all (card ∷ cards) one =
    let itself : eqb card.suit card.suit ≡ true = eq-eqb card.suit card.suit refl in
    (card.suit, card.one_of_four, rw itself one)

-- cards that all have a given suit are of one suit
pub all-one_suit : (suit : ℕ) (cards : List Card) → list_all (λ (card : Card). eqb card.suit suit) cards ≡ true
    → are_of_one_suit cards ≡ true
all-one_suit suit [] all = refl
all-one_suit suit (card ∷ cards) all =
    let parts = and_parts (eqb card.suit suit) (list_all (λ (c : Card). eqb c.suit suit) cards) all in
    let is : suit ≡ card.suit = sym (eqb-true card.suit suit parts.0) in
    subst (λ s. list_all (λ (c : Card). eqb c.suit s) cards ≡ true) is parts.1
