-- Who wins a chip: the first players in the order of all single cards are those with the best cards.
use Rattle.std.proofs.Common.{◌≡◌, ◌≢◌, ◌∙◌, refl, ap, sym, ℕ, zero, suc, ◌+◌, ◌<◌, ◌≤◌, true, false, List, [], ◌∷◌, ◌++◌, length, take, drop, get_or, zero-add, arith}
use Rattle.std.specs.Prelude.{◌&&◌, nat_lt, map, sum_by, count_by, Option, Some, None}
use Rattle.std.proofs.lemmas.Bool.{lt-ltb}
use Rattle.std.proofs.lemmas.Bool.Decides.{nat_tests}
use Rattle.std.proofs.lemmas.List.{get_or-take, length-map, length-take, map-append}
use Rattle.std.proofs.Math.Seq.{take-add}
use Rattle.std.proofs.lemmas.List.Sums.{sum_by-cons}
use Rattle.card_set.specs.declared.card.Card.{Card}
use Rattle.card_set.specs.Decks.{IsDeck}
use Rattle.rulebook.proofs.Passing.{filter-always}
use Rattle.chip_race.specs.Races.{odd_chips, SingleCard, cards_for, single_cards, ordered, players_in_order, winners, is_among}
use Rattle.chip_race.specs.BestCards.{best_cards, is_ahead, is_among_first}
use Rattle.chip_race.proofs.Scores.{strength, score, card_score, same_strength, strength-some, is_higher-strength, score-ordered, score-best_cards}
use Rattle.chip_race.proofs.Counts.{count_from, count_from-same, count_by-count_from}
use Rattle.chip_race.proofs.Order.{Apart, AllApart, Seated, Seated-ordered, Falling-ordered, comes_before, comes_before-score, among-first}

-- The cards that are dealt are the first cards of the deck.
map-cards_for : (index : ℕ) (cards : List Card) → map (λ (single : SingleCard). single.card) (cards_for index cards)
    ≡ cards
map-cards_for index [] = refl
map-cards_for index (card ∷ cards) = ap (λ rest. card ∷ rest) (map-cards_for index cards)

map-single_cards : (old new index : ℕ) (stacks : List ℕ) (cards : List Card)
    → map (λ (single : SingleCard). single.card) (single_cards old new index stacks cards)
    ≡ take (sum_by (odd_chips old new) stacks) cards
unfolding single_cards
map-single_cards old new index [] cards = refl
map-single_cards old new index (stack ∷ stacks) cards =
    map-append (λ (single : SingleCard). single.card) (cards_for index (take (odd_chips old new stack) cards))
    (single_cards old new (suc index) stacks (drop (odd_chips old new stack) cards))
    ∙ rw (
      map-cards_for index (take (odd_chips old new stack) cards),
      map-single_cards old new (suc index) stacks
          (drop (odd_chips old new stack) cards),
    )
    (sym (ap (λ n. take n cards) (sum_by-cons (odd_chips old new) stack stacks) ∙ take-add (odd_chips old new stack)
    (sum_by (odd_chips old new) stacks) cards))

-- Where each card differs from each later one, no two have the same strength.
Apart-from : (card : Card) (singles : List SingleCard)
    → ((k : ℕ) (d : Card) → k < length singles
    → card ≢ get_or (map (λ (single : SingleCard). single.card) singles) k d) → Apart card singles
Apart-from card [] differs = tt
Apart-from card (single ∷ singles) differs = (
  (λ same. differs zero card (omega arith) (same_strength card single.card same)),
  Apart-from card singles
      (λ k d within. differs (suc k) d (omega arith)),
)

AllApart-from : (singles : List SingleCard) → ((i j : ℕ) (d : Card) → i < j → j < length singles
    → get_or (map (λ (single : SingleCard). single.card) singles) i d ≢ get_or
    (map (λ (single : SingleCard). single.card) singles) j d) → AllApart singles
AllApart-from [] differ = tt
AllApart-from (single ∷ singles) differ = (
  Apart-from single.card singles (λ k d within. differ zero (suc k) d (omega arith) (omega arith)),
  AllApart-from singles (λ i j d before within. differ (suc i) (suc j) d (omega arith) (omega arith)),
)

-- No two single cards of a race have the same strength.
AllApart-single_cards : (old new index : ℕ) (stacks : List ℕ) (cards : List Card) → IsDeck cards
    → AllApart (single_cards old new index stacks cards)
AllApart-single_cards old new index stacks cards deck =
    AllApart-from (single_cards old new index stacks cards) (λ i j d before within same.
    let dealt = map-single_cards old new index stacks cards in
    let size : length (take (sum_by (odd_chips old new) stacks) cards)
    ≡ length (single_cards old new index stacks cards) = ap length (sym dealt)
    ∙ length-map (single_cards old new index stacks cards) (λ (single : SingleCard). single.card) in
    let bound = within_take (sum_by (odd_chips old new) stacks) cards j (omega arith) in
    deck.distinct i j d before (omega (arith, bound.1))
    (sym (get_or-take (sum_by (odd_chips old new) stacks) cards i d (omega (arith, bound.0)))
    ∙ sym (ap (λ (list : List Card). get_or list i d) dealt) ∙ same ∙ ap (λ (list : List Card). get_or list j d) dealt
    ∙ get_or-take (sum_by (odd_chips old new) stacks) cards j d bound.0))
  where
    within_take : (n : ℕ) (list : List Card) (k : ℕ) → k < length (take n list) → (k < n) × (k < length list)
    within_take n list k within = (let size = length-take n list in (omega (arith, size), omega (arith, size)))

-- Each player of a single card has a seat.
Seated-cards_for : (index : ℕ) (cards : List Card) → index < 10 → Seated (cards_for index cards)
Seated-cards_for index [] seat = tt
Seated-cards_for index (card ∷ cards) seat = (seat, Seated-cards_for index cards seat)

Seated-append : (front behind : List SingleCard) → Seated front → Seated behind → Seated (front ++ behind)
Seated-append [] behind first second = second
Seated-append (single ∷ front) behind first second = (first.0, Seated-append front behind first.1 second)

-- Each player of the cards of a race has a seat.
pub Seated-single_cards : (old new index : ℕ) (stacks : List ℕ) (cards : List Card) → index + length stacks ≤ 10
    → Seated (single_cards old new index stacks cards)
unfolding single_cards
Seated-single_cards old new index [] cards seats = tt
Seated-single_cards old new index (stack ∷ stacks) cards seats =
    Seated-append (cards_for index (take (odd_chips old new stack) cards))
    (single_cards old new (suc index) stacks (drop (odd_chips old new stack) cards))
    (Seated-cards_for index (take (odd_chips old new stack) cards) (omega arith))
    (Seated-single_cards old new (suc index) stacks (drop (odd_chips old new stack) cards) (omega arith))

-- A player wins a chip where he has a card and fewer players than there are chips have a stronger one.
pub winners-score : (old new chips : ℕ) (stacks : List ℕ) (cards : List Card) (player : ℕ) → length stacks ≡ 10
    → IsDeck cards
    → is_among (winners old new chips stacks cards) player
    ≡ (nat_lt 0 (score (single_cards old new 0 stacks cards) player)
    && nat_lt (count_from 0 10 (λ other. nat_lt (score (single_cards old new 0 stacks cards) player)
    (score (single_cards old new 0 stacks cards) other))) chips)
unfolding winners
winners-score old new chips stacks cards player seats deck =
    let singles = single_cards old new 0 stacks cards in
    let falling = Falling-ordered singles (AllApart-single_cards old new 0 stacks cards deck) in
    let counts : count_from 0 10 (λ other. comes_before (ordered singles) other player)
    ≡ count_from 0 10 (λ other. nat_lt (score singles player) (score singles other)) =
    count_from-same 0 10 (λ other. comes_before (ordered singles) other player)
    (λ other. nat_lt (score singles player) (score singles other))
    (λ other low high. comes_before-score (ordered singles) falling other player
    ∙ ap (λ n. nat_lt n (score (ordered singles) other)) (score-ordered singles player)
    ∙ ap (λ n. nat_lt (score singles player) n) (score-ordered singles other)) in
    ap (λ players. is_among (take chips players) player)
    (sym (filter-always (λ player. true) (players_in_order (ordered singles)) (λ player. refl)))
    ∙ among-first (ordered singles) (λ other. true) chips player
    (Seated-ordered singles (Seated-single_cards old new 0 stacks cards (omega arith)))
    ∙ ap (λ n. nat_lt 0 n && nat_lt (count_from 0 10 (λ other. comes_before (ordered singles) other player)) chips)
    (score-ordered singles player)
    ∙ ap (λ n. nat_lt 0 (score singles player) && nat_lt n chips) counts

is_ahead-score : (other : Option Card) (mine : Card) → is_ahead other mine ≡ nat_lt (strength mine) (card_score other)
is_ahead-score None mine = none (strength mine)
  where
    none : (n : ℕ) → false ≡ nat_lt n 0
    none n = grind (arith, nat_tests)
is_ahead-score (Some card) mine = is_higher-strength card mine

length-best_cards : (old new : ℕ) (stacks : List ℕ) (cards : List Card) → length (best_cards old new stacks cards)
    ≡ length stacks
unfolding best_cards
length-best_cards old new [] cards = refl
length-best_cards old new (stack ∷ stacks) cards =
    ap suc (length-best_cards old new stacks (drop (odd_chips old new stack) cards))

among_by_score : (best : List (Option Card)) (scores : ℕ → ℕ) (chips : ℕ) (own : Option Card) (mine : ℕ) → length best
    ≡ 10 → ((k : ℕ) → k < 10 → scores k ≡ card_score (get_or best k None)) → mine ≡ card_score own
    → is_among_first best chips own
    ≡ (nat_lt 0 mine && nat_lt (count_from 0 10 (λ other. nat_lt mine (scores other))) chips)
among_by_score best scores chips None mine seats are is = rw is refl
among_by_score best scores chips (Some card) mine seats are is =
    let some : nat_lt 0 (strength card) ≡ true = lt-ltb 0 (strength card) (strength-some card) in
    let counts : count_by (λ other. is_ahead other card) best
    ≡ count_from 0 10 (λ other. nat_lt (strength card) (scores other)) =
    count_by-count_from (λ other. is_ahead other card) best 0 (λ other. nat_lt (strength card) (scores other)) None
    (λ k within. is_ahead-score (get_or best k None) card ∙ ap (λ n. nat_lt (strength card) n)
    (sym (are k (omega arith))) ∙ ap (λ n. nat_lt (strength card) (scores n)) (sym (zero-add k)))
    ∙ ap (λ n. count_from 0 n (λ other. nat_lt (strength card) (scores other))) seats in
    rw (is, some, counts) refl

-- The players who are among the first by their best cards are those who win a chip.
pub winners-best_cards : (old new chips : ℕ) (stacks : List ℕ) (cards : List Card) (player : ℕ) → length stacks ≡ 10
    → IsDeck cards → player < 10
    → is_among_first (best_cards old new stacks cards) chips (get_or (best_cards old new stacks cards) player None)
    ≡ is_among (winners old new chips stacks cards) player
winners-best_cards old new chips stacks cards player seats deck within =
    among_by_score (best_cards old new stacks cards) (score (single_cards old new 0 stacks cards)) chips
    (get_or (best_cards old new stacks cards) player None)
    (score (single_cards old new 0 stacks cards) player) (length-best_cards old new stacks cards ∙ seats)
    (λ k below. best_at k (omega arith)) (best_at player (omega arith))
    ∙ sym (winners-score old new chips stacks cards player seats deck)
  where
    best_at : (k : ℕ) → k < length stacks → score (single_cards old new 0 stacks cards) k
        ≡ card_score (get_or (best_cards old new stacks cards) k None)
    best_at k below = ap (score (single_cards old new 0 stacks cards)) (sym (zero-add k))
        ∙ score-best_cards old new 0 stacks cards k below

no-chips : (old new stack : ℕ) → 1 ≤ old → 1 ≤ new → stack ≡ 0 → odd_chips old new stack ≡ 0
no-chips old new stack chip unit empty = grind arith

no-card : (old new : ℕ) (stacks : List ℕ) (cards : List Card) (player : ℕ) → 1 ≤ old → 1 ≤ new
    → get_or stacks player 0 ≡ 0 → get_or (best_cards old new stacks cards) player None ≡ None
unfolding best_cards
no-card old new [] cards player chip unit empty = refl
no-card old new (stack ∷ stacks) cards zero chip unit empty = (let none : odd_chips old new stack ≡ 0 =
    no-chips old new stack chip unit empty in rw none refl)
no-card old new (stack ∷ stacks) cards (suc player) chip unit empty =
    no-card old new stacks (drop (odd_chips old new stack) cards) player chip unit empty

-- An empty seat wins no chip.
pub winners-empty : (old new chips : ℕ) (stacks : List ℕ) (cards : List Card) (player : ℕ) → length stacks ≡ 10
    → IsDeck cards → player < 10 → 1 ≤ old → 1 ≤ new → get_or stacks player 0 ≡ 0
    → is_among (winners old new chips stacks cards) player ≡ false
winners-empty old new chips stacks cards player seats deck within chip unit empty =
    sym (winners-best_cards old new chips stacks cards player seats deck within)
    ∙ ap (is_among_first (best_cards old new stacks cards) chips) (no-card old new stacks cards player chip unit empty)
