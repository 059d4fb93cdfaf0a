-- The value of five cards (Robert's Rules of Poker, the ranking of hands).
use Rattle.std.specs.Prelude.{ℕ, ◌-◌, Bool, true, false, ◌==◌, if◌then◌else◌, List, [], ◌∷◌, ◌++◌, map, filter, count_by, Option, Some, None}
use Rattle.std.specs.List.{list_all}
use Rattle.std.specs.Cmp.Lexicographic.{pointwise}
use Rattle.card_set.specs.declared.card.Card.{Card}
use Rattle.hand_rank.specs.declared.category.Category.{Category}
use Rattle.hand_rank.specs.declared.category.Category.TheVariants.{HighCard, OnePair, TwoPair, ThreeOfAKind, Straight, Flush, FullHouse, FourOfAKind, StraightFlush}

-- the number of a category: 8 straight flush, 7 four of a kind, 6 full house, 5 flush, 4 straight, 3 three of a kind, 2
-- two pair, 1 one pair, 0 high card
abbrev pub category_number : Category → ℕ
category_number HighCard = 0
category_number OnePair = 1
category_number TwoPair = 2
category_number ThreeOfAKind = 3
category_number Straight = 4
category_number Flush = 5
category_number FullHouse = 6
category_number FourOfAKind = 7
category_number StraightFlush = 8

-- the ranks from the ace down to the two
abbrev pub ranks_down : List ℕ
ranks_down = 14 ∷ 13 ∷ 12 ∷ 11 ∷ 10 ∷ 9 ∷ 8 ∷ 7 ∷ 6 ∷ 5 ∷ 4 ∷ 3 ∷ 2 ∷ []

-- how often a rank occurs
abbrev pub count_of_rank : List Card → ℕ → ℕ
count_of_rank cards rank = count_by (λ card. card.rank == rank) cards

-- the ranks that occur so often, higher ones first
unfoldable pub ranks_that_occur : List Card → ℕ → List ℕ
ranks_that_occur cards times = filter (λ rank. count_of_rank cards rank == times) ranks_down

-- the distinct ranks: those that occur more often first, and higher ones first among equally frequent ones
unfoldable pub distinct_ranks : List Card → List ℕ
distinct_ranks cards =
    ranks_that_occur cards 4 ++ ranks_that_occur cards 3 ++ ranks_that_occur cards 2 ++ ranks_that_occur cards 1

-- the category by how often the distinct ranks occur, in their order: 4+1, 3+2, 3+1+1, 2+2+1 and 2+1+1+1; none where
-- five ranks occur once
abbrev pub category_of : List ℕ → Option Category
category_of counts =
    if pointwise ◌==◌ counts (4 ∷ 1 ∷ []) then Some FourOfAKind
    else if pointwise ◌==◌ counts (3 ∷ 2 ∷ []) then Some FullHouse
    else if pointwise ◌==◌ counts (3 ∷ 1 ∷ 1 ∷ []) then Some ThreeOfAKind
    else if pointwise ◌==◌ counts (2 ∷ 2 ∷ 1 ∷ []) then Some TwoPair
    else if pointwise ◌==◌ counts (2 ∷ 1 ∷ 1 ∷ 1 ∷ []) then Some OnePair
    else None

-- the top rank of five distinct ranks that run: the greatest less the least is 4; or they are the ace, 5, 4, 3 and 2,
-- and then the top rank is 5
abbrev pub run_top : List ℕ → Option ℕ
run_top (top ∷ second ∷ third ∷ fourth ∷ last ∷ []) =
    if pointwise ◌==◌ (top ∷ second ∷ third ∷ fourth ∷ last ∷ []) (14 ∷ 5 ∷ 4 ∷ 3 ∷ 2 ∷ []) then Some 5
    else if top - last == 4 then Some top
    else None
run_top ranks = None

-- whether there is one suit
abbrev pub are_of_one_suit : List Card → Bool
are_of_one_suit [] = true
are_of_one_suit (first ∷ others) = list_all (λ other. other.suit == first.suit) others

-- the value of five cards of distinct ranks, by the top rank if they run and by whether there is one suit: a straight
-- or a straight flush is valued by its top rank alone
abbrev pub value_of_distinct : Option ℕ → Bool → List ℕ → List ℕ
value_of_distinct (Some top) true ranks = category_number StraightFlush ∷ top ∷ []
value_of_distinct (Some top) false ranks = category_number Straight ∷ top ∷ []
value_of_distinct None true ranks = category_number Flush ∷ ranks
value_of_distinct None false ranks = category_number HighCard ∷ ranks

-- the value by the category, if a rank occurs twice or more often
abbrev pub value_by : Option Category → Option ℕ → Bool → List ℕ → List ℕ
value_by (Some category) top one_suit ranks = category_number category ∷ ranks
value_by None top one_suit ranks = value_of_distinct top one_suit ranks

-- the value of five cards: their category, and then the distinct ranks
unfoldable pub five_card_value : List Card → List ℕ
five_card_value cards =
    let ranks = distinct_ranks cards in
    value_by (category_of (map (count_of_rank cards) ranks)) (run_top ranks) (are_of_one_suit cards) ranks
