-- Hole cards with a board, as they are made.
use Rattle.std.proofs.Common.{◌≡◌, ℕ, ◌+◌, ◌≤◌, true, false, ◌&&◌, ◌||◌, eqb, leb, cond, List, [], ◌∷◌, ◌++◌, length, Some, None, refl, sym, ap, ◌∙◌, subst, add-zero, eqb-true, eq-eqb, lit≤, arith}
use Rattle.std.specs.Prelude.{filter}
use Rattle.std.specs.List.{list_all}
use Rattle.std.proofs.lemmas.Bool.{and_from, and_parts}
use Rattle.std.proofs.lemmas.Bool.Decides.{nat_tests}
use Rattle.card_set.specs.declared.card.Card.{Card}
use Rattle.hand_rank.specs.Held.{count_of_some_suit, AreSuited}
use Rattle.hand_rank.specs.Cards.{count_of_suit}
use Rattle.hand_rank.specs.Sets.{has_rank, HasRanks}
use Rattle.hand_rank.specs.Held.{suit_of}
use Rattle.hand_rank.specs.Values.{count_of_rank}
use Rattle.hand_rank.proofs.CardCounts.{other-rank, count_of_suit-cons, suited-rank}
use Rattle.hand_rank.proofs.CountLaws.{count_of_rank-cons}

-- the suit of two cards of one suit
one-suit : (one other : Card) → one.suit ≡ other.suit → suit_of (one ∷ other ∷ []) ≡ Some one.suit
one-suit one other same = let is : eqb other.suit one.suit ≡ true = grind (arith, nat_tests) in rw is refl

-- the ranks of one suit
pub suited-ranks : (of_board more bits : ℕ) (one other : Card) (cards : List Card) → one.suit ≡ other.suit
    → ((r : ℕ) → has_rank of_board r ≡ leb 1 (count_of_suit cards one.suit r))
    → ((r : ℕ) → has_rank more r ≡ (has_rank of_board r || eqb r one.rank))
    → ((r : ℕ) → has_rank bits r ≡ (has_rank more r || eqb r other.rank))
    → HasRanks bits 1 (count_of_some_suit (suit_of (one ∷ other ∷ [])) (one ∷ other ∷ cards))
suited-ranks of_board more bits one other cards same are with_one with_other =
    subst (λ s. HasRanks bits 1 (count_of_some_suit s (one ∷ other ∷ cards))) (sym (one-suit one other same)) (record {
      some = lit≤ tt;
      at = λ r below.
          let first = count_of_suit-cons one.suit r one (other ∷ cards) in
          let second = count_of_suit-cons one.suit r other cards in
          with_other r ∙ ap (λ b. b || eqb r other.rank) (with_one r ∙ ap (λ b. b || eqb r one.rank) (are r))
          ∙ counted one.suit other.suit r one.rank other.rank (count_of_suit cards one.suit r) same
          ∙ ap (leb 1) (sym (first ∙ ap (λ n. cond (eqb one.suit one.suit && eqb one.rank r) 1 0 + n) second));
      only = λ r out. sym (suited-rank one.suit (one ∷ other ∷ cards) r)
          ∙ other-rank (filter (λ (card : Card). eqb card.suit one.suit) (one ∷ other ∷ cards)) r out;
    })
  where
    counted : (s t r a b n : ℕ) → s ≡ t → ((leb 1 n || eqb r a) || eqb r b)
        ≡ leb 1 (cond (eqb s s && eqb a r) 1 0 + (cond (eqb t s && eqb b r) 1 0 + n))
    counted s t r a b n same = grind (arith, nat_tests)

-- the suit of hole cards
suit-all : (hole : List Card) (suit : ℕ) → suit_of hole ≡ Some suit
    → list_all (λ (card : Card). eqb card.suit suit) hole ≡ true
suit-all [] suit is = absurd (let bad : None ≡ Some suit = is in cc)
suit-all (card ∷ cards) suit is =
    (elim (list_all (λ (other : Card). eqb other.suit card.suit) cards) as
    (λ b. list_all (λ (other : Card). eqb other.suit card.suit) cards ≡ b → cond b (Some card.suit) None ≡ Some suit
    → list_all (λ (other : Card). eqb other.suit suit) (card ∷ cards) ≡ true) [
      | true ↦ λ all found.
          let same : card.suit ≡ suit = cc in
          subst (λ s. list_all (λ (other : Card). eqb other.suit s) (card ∷ cards) ≡ true) same
          (and_from (eqb card.suit card.suit) (list_all (λ (other : Card). eqb other.suit card.suit) cards)
          (eq-eqb card.suit card.suit refl) all)
      | false ↦ λ fails found. absurd (let bad : None ≡ Some suit = found in cc)
    ]) refl is

all-suit : (hole : List Card) (suit : ℕ) → 1 ≤ length hole
    → list_all (λ (card : Card). eqb card.suit suit) hole ≡ true → suit_of hole ≡ Some suit
all-suit [] suit some all = absurd (omega arith)
all-suit (card ∷ cards) suit some all =
    let parts = and_parts (eqb card.suit suit) (list_all (λ (other : Card). eqb other.suit suit) cards) all in
    let same : card.suit ≡ suit = eqb-true card.suit suit parts.0 in
    let others : list_all (λ (other : Card). eqb other.suit card.suit) cards ≡ true =
    subst (λ s. list_all (λ (other : Card). eqb other.suit s) cards ≡ true) (sym same) parts.1 in
    ap (λ b. cond b (Some card.suit) None) others ∙ ap (λ s. Some s) same

-- a flush is of the suit of the hole cards
pub suited-pair : (bits : ℕ) (hole board : List Card) → 1 ≤ length hole
    → HasRanks bits 1 (count_of_some_suit (suit_of hole) (hole ++ board)) → AreSuited bits hole board
suited-pair bits hole board some has = record {
  suit = suit_of hole;
  ranks = has;
  of_hole = λ s is. suit-all hole s is;
  only = λ s within all five. all-suit hole s some all;
}

-- how often ranks occur in one card
pub one-count : (card : Card) (r : ℕ) → count_of_rank (card ∷ []) r ≡ cond (eqb card.rank r) 1 0
one-count card r = count_of_rank-cons card [] r ∙ add-zero (cond (eqb card.rank r) 1 0)
