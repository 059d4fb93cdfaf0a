-- How often ranks occur among some cards.
use Rattle.std.proofs.Common.{◌≡◌, ℕ, suc, ◌+◌, ◌-◌, ◌≤◌, cond, eqb, List, [], ◌∷◌, length, take, drop, get_or, ap, ap₂, ◌∙◌, arith}
use Rattle.std.specs.Prelude.{Option, map}
use Rattle.std.specs.List.{list_all}
use Rattle.std.proofs.lemmas.List.{take_all}
use Rattle.std.proofs.lemmas.List.Sums.{sum_by-cons}
use Rattle.card_set.specs.declared.card.Card.{Card}
use Rattle.hand_rank.specs.declared.category.Category.{Category}
use Rattle.hand_rank.specs.Values.{count_of_rank, distinct_ranks, category_of, run_top, are_of_one_suit, value_by, five_card_value}

-- one more card adds one to how often its own rank occurs, and nothing to the other ranks
pub count_of_rank-cons : (card : Card) (cards : List Card) (r : ℕ)
    → count_of_rank (card ∷ cards) r ≡ cond (eqb card.rank r) 1 0 + count_of_rank cards r
count_of_rank-cons card cards r = sum_by-cons (λ (c : Card). cond (eqb c.rank r) 1 0) card cards

-- the first card's suit is that of all, where the others are the cards behind it
pub one_suit-of : (cards : List Card) (first : Card) → 1 ≤ length cards → first ≡ get_or cards 0 first
    → list_all (λ (other : Card). eqb other.suit first.suit) (take (length cards - 1) (drop 1 cards))
    ≡ are_of_one_suit cards
one_suit-of [] first some at = absurd (omega arith)
one_suit-of (card ∷ cards) first some at =
    ap₂ (λ (c : Card) (others : List Card). list_all (λ (other : Card). eqb other.suit c.suit) others) at
    (take_all (suc (length cards) - 1) cards (omega arith))

-- the value of five cards, from its parts
pub value-by : (cards : List Card) (ranks counts : List ℕ) (category : Option Category) → ranks ≡ distinct_ranks cards
    → counts ≡ map (count_of_rank cards) ranks → category ≡ category_of counts
    → value_by category (run_top ranks) (are_of_one_suit cards) ranks ≡ five_card_value cards
unfolding five_card_value
value-by cards ranks counts category are_ranks are_counts is =
    let all : counts ≡ map (count_of_rank cards) (distinct_ranks cards) = are_counts
    ∙ ap (map (count_of_rank cards)) are_ranks in
    ap₂ (λ c rs. value_by c (run_top rs) (are_of_one_suit cards) rs) (is ∙ ap category_of all) are_ranks
