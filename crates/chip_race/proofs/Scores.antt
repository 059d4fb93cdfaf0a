-- How high the best card of a player is among some single cards, as a number.
use Rattle.std.proofs.Common.{◌≡◌, ◌≢◌, ◌∙◌, refl, ap, sym, inl, inr, ℕ, zero, suc, ◌+◌, ◌*◌, ◌<◌, ◌≤◌, max, true, false, List, [], ◌∷◌, ◌++◌, length, take, drop, get_or, arith}
use Rattle.std.specs.Prelude.{◌==◌, ◌&&◌, ◌||◌, if◌then◌else◌, nat_lt, fold, Option, Some, None}
use Rattle.std.proofs.Math.Nat.{zero-max}
use Rattle.std.proofs.lemmas.Bool.{cases_Bool}
use Rattle.std.proofs.lemmas.Bool.Decides.{nat_tests}
use Rattle.card_set.specs.declared.card.Card.{Card}
use Rattle.card_set.proofs.CardLaws.{same_card}
use Rattle.chip_race.specs.Races.{odd_chips, SingleCard, cards_for, single_cards, is_higher, put_in_order, ordered}
use Rattle.chip_race.specs.BestCards.{better, highest, best_cards}

-- How high a card is: by rank, and of the same rank by suit.
abbrev pub strength : Card → ℕ
strength card = card.rank * 4 + card.suit

numbers-higher : (a b c d : ℕ) → c < 4 → d < 4 → (nat_lt b a || (a == b && nat_lt d c)) ≡ nat_lt (b * 4 + d) (a * 4 + c)
numbers-higher a b c d four more = grind (arith, nat_tests)

-- A card is higher than another where its strength is greater.
pub is_higher-strength : (one other : Card) → is_higher one other ≡ nat_lt (strength other) (strength one)
is_higher-strength one other = numbers-higher one.rank other.rank one.suit other.suit one.one_of_four other.one_of_four

-- Cards of the same strength are the same card.
pub same_strength : (one other : Card) → strength one ≡ strength other → one ≡ other
same_strength one other same =
    let first = one.one_of_four in
    let second = other.one_of_four in
    same_card one other (omega (arith, first, second)) (omega (arith, first, second))

-- Each card has some strength.
pub strength-some : (card : Card) → 1 ≤ strength card
strength-some card = let two = card.from_two in omega (arith, two)

-- What one single card gives a player: its strength, where it is his.
abbrev pub own_score : SingleCard → ℕ → ℕ
own_score single player = if player == single.index then strength single.card else 0

-- The strength of a player's best card among some single cards, and 0 where he has none.
abbrev pub score : List SingleCard → ℕ → ℕ
score [] player = 0
score (single ∷ singles) player = max (own_score single player) (score singles player)

-- A card is put in order: the scores do not depend on the order.
pub score-put_in_order : (single : SingleCard) (singles : List SingleCard) (player : ℕ)
    → score (put_in_order single singles) player ≡ max (own_score single player) (score singles player)
unfolding put_in_order
score-put_in_order single [] player = refl
score-put_in_order single (other ∷ others) player =
    elim (cases_Bool (is_higher single.card other.card)) [
      | inl higher ↦ rw higher refl
      | inr lower ↦ rw lower (rw (score-put_in_order single others player) (omega arith))
    ]

-- Nor do they on the order of all of them.
pub score-ordered : (singles : List SingleCard) (player : ℕ) → score (ordered singles) player ≡ score singles player
unfolding ordered
score-ordered [] player = refl
score-ordered (single ∷ singles) player = score-put_in_order single (ordered singles) player
    ∙ ap (λ n. max (own_score single player) n) (score-ordered singles player)

-- A player's best card of two lists.
pub score-append : (front behind : List SingleCard) (player : ℕ) → score (front ++ behind) player
    ≡ max (score front player) (score behind player)
score-append [] behind player = omega arith
score-append (single ∷ front) behind player = rw (score-append front behind player) (omega arith)

-- The strength of a best card, and 0 where there is none.
abbrev pub card_score : Option Card → ℕ
card_score None = 0
card_score (Some card) = strength card

better-score : (best : Option Card) (card : Card) → card_score (better best card)
    ≡ max (card_score best) (strength card)
better-score None card = omega arith
better-score (Some best) card =
    elim (cases_Bool (is_higher card best)) [
      | inl higher ↦ rw higher (let test = sym (is_higher-strength card best) ∙ higher in
          grind (arith, nat_tests, test))
      | inr lower ↦ rw lower (let test = sym (is_higher-strength card best) ∙ lower in grind (arith, nat_tests, test))
    ]

fold-score : (index : ℕ) (best : Option Card) (cards : List Card) → card_score (fold better best cards)
    ≡ max (card_score best) (score (cards_for index cards) index)
fold-score index best [] = omega arith
fold-score index best (card ∷ cards) =
    let own : (index == index) ≡ true = grind (arith, nat_tests) in
    fold-score index (better best card) cards ∙ rw (own, better-score best card) (omega arith)

-- The cards of one player: his score is that of the highest.
pub score-cards_for : (index : ℕ) (cards : List Card) → score (cards_for index cards) index ≡ card_score (highest cards)
score-cards_for index cards = sym (fold-score index None cards ∙ omega arith)

-- They give nobody else a score.
pub score-cards_for_other : (index player : ℕ) (cards : List Card) → index ≢ player
    → score (cards_for index cards) player ≡ 0
score-cards_for_other index player [] other = refl
score-cards_for_other index player (card ∷ cards) other =
    let test : (player == index) ≡ false = grind (arith, nat_tests) in
    rw (test, score-cards_for_other index player cards other) refl

-- The players at lower seats have no card of those that come from here on.
pub score-single_cards_below : (old new index player : ℕ) (stacks : List ℕ) (cards : List Card) → player < index
    → score (single_cards old new index stacks cards) player ≡ 0
unfolding single_cards
score-single_cards_below old new index player [] cards below = refl
score-single_cards_below old new index player (stack ∷ stacks) cards below =
    score-append (cards_for index (take (odd_chips old new stack) cards))
    (single_cards old new (suc index) stacks (drop (odd_chips old new stack) cards)) player
    ∙ rw (
      score-cards_for_other index player (take (odd_chips old new stack) cards) (omega arith),
      score-single_cards_below old new (suc index) player stacks (drop (odd_chips old new stack) cards) (omega arith),
    ) refl

-- The best cards of the players have their scores.
pub score-best_cards : (old new index : ℕ) (stacks : List ℕ) (cards : List Card) (k : ℕ) → k < length stacks
    → score (single_cards old new index stacks cards) (index + k)
    ≡ card_score (get_or (best_cards old new stacks cards) k None)
unfolding single_cards best_cards
score-best_cards old new index [] cards k within = absurd (omega arith)
score-best_cards old new index (stack ∷ stacks) cards zero within =
    let here : index + 0 ≡ index = omega arith in
    rw here
    (score-append (cards_for index (take (odd_chips old new stack) cards))
    (single_cards old new (suc index) stacks (drop (odd_chips old new stack) cards)) index
    ∙ rw (
      score-cards_for index (take (odd_chips old new stack) cards),
      score-single_cards_below old new (suc index) index stacks (drop (odd_chips old new stack) cards) (omega arith),
    ) (omega arith))
score-best_cards old new index (stack ∷ stacks) cards (suc k) within =
    let there : index + suc k ≡ suc index + k = omega arith in
    score-append (cards_for index (take (odd_chips old new stack) cards))
    (single_cards old new (suc index) stacks (drop (odd_chips old new stack) cards)) (index + suc k)
    ∙ rw (score-cards_for_other index (index + suc k) (take (odd_chips old new stack) cards) (omega arith))
    (ap (λ player. max 0 (score (single_cards old new (suc index) stacks (drop (odd_chips old new stack) cards))
    player)) there ∙ zero-max _
    ∙ score-best_cards old new (suc index) stacks (drop (odd_chips old new stack) cards) k (omega arith))
