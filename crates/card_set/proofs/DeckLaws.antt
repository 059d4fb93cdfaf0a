-- Which rows are decks. This project's own.
use Rattle.std.proofs.Common.{◌≡◌, ◌≢◌, ℕ, suc, zero, ◌+◌, ◌/◌, ◌%◌, ◌<◌, true, false, List, [], ◌∷◌, length, take, arith, refl, ap, length-take-le, ◌∙◌, sym}
use Rattle.std.proofs.lemmas.Bool.{or_from, or_parts, false_from_ne_true, true_from_ne_false}
use Rattle.std.proofs.lemmas.List.{take_more, get_or-take}
use Rattle.std.proofs.lemmas.List.Quantifiers.{all_pairs_push}
use Rattle.std.proofs.lemmas.List.Folds.{list_any_none, list_any_at}
use Rattle.std.proofs.lemmas.List.Kept.{AllPairs-cons}
use Rattle.std.specs.List.{All, AllPairs, HoldsAt, AllWithin, slice_index_or, list_any}
use Rattle.card_set.specs.declared.card.Card.{Card}
use Rattle.card_set.specs.Decks.{IsDeck, IsInOrder, is_same_card, repeats_a_card}
use Rattle.card_set.proofs.CardLaws.{same-from_is_same_card, differ-from_is_same_card, is_same_card-from_differ}

-- in a deck in order no card comes twice, since no two indices have the same quotient and the same rest
pub in_order_is_deck : (cards : List Card) → length cards ≡ 52 → IsInOrder cards → IsDeck cards
in_order_is_deck cards size order = record {
  whole = size;
  distinct = λ i j d before within same.
      let at_i : ((slice_index_or cards i d).rank ≡ 2 + i / 4) × ((slice_index_or cards i d).suit ≡ i % 4) =
      order i d (omega arith) in
      let at_j : ((slice_index_or cards j d).rank ≡ 2 + j / 4) × ((slice_index_or cards j d).suit ≡ j % 4) =
      order j d (omega arith) in
      let ranks : (slice_index_or cards i d).rank ≡ (slice_index_or cards j d).rank =
      ap (λ (card : Card). card.rank) same in
      let suits : (slice_index_or cards i d).suit ≡ (slice_index_or cards j d).suit =
      ap (λ (card : Card). card.suit) same in
      omega arith;
}

-- one more card, which the cards before it are not
pub distinct-more : (cards : List Card) (index : ℕ) (d : Card) → index < length cards
    → AllPairs (λ one other. one ≢ other) (take index cards)
    → AllWithin (λ one. is_same_card one (slice_index_or cards index d) ≡ false) (take index cards) 0
    (length (take index cards)) → AllPairs (λ one other. one ≢ other) (take (index + 1) cards)
distinct-more cards index d within distinct new =
    rw (take_more cards index d within)
    (all_pairs_push (λ one other. one ≢ other) (take index cards) (slice_index_or cards index d) distinct
    (λ k e below. differ-from_is_same_card (slice_index_or (take index cards) k e) (slice_index_or cards index d)
    (new k e (omega arith) below)))

-- a card that comes before an index and at it comes twice
pub comes_twice : (cards : List Card) (index : ℕ) (d : Card) → index < length cards → (k : ℕ)
    → k < length (take index cards)
    → HoldsAt (λ one. is_same_card one (slice_index_or cards index d) ≡ true) (take index cards) k → IsDeck cards → ⊥
comes_twice cards index d within k below test deck =
    let size : length (take index cards) ≡ index = length-take-le index cards (omega arith) in
    let before : k < index = omega arith in
    let same : slice_index_or (take index cards) k d ≡ slice_index_or cards index d =
    same-from_is_same_card _ _ (test d) in
    deck.distinct k index d before within (sym (get_or-take index cards k d before) ∙ same)

-- where each card differs from each later one, none comes twice
pub repeats_none-from_AllPairs : (cards : List Card) → AllPairs (λ one other. one ≢ other) cards
    → repeats_a_card cards ≡ false
repeats_none-from_AllPairs [] distinct = refl
repeats_none-from_AllPairs (card ∷ cards) distinct =
    or_from (list_any (is_same_card card) cards) (repeats_a_card cards)
    (list_any_none (is_same_card card) cards
    (λ k d within. is_same_card-from_differ card (slice_index_or cards k d)
    (distinct zero (suc k) d (omega arith) (omega arith))))
    (repeats_none-from_AllPairs cards (λ i j d before within. distinct (suc i) (suc j) d (omega arith) (omega arith)))

-- a card that is the same as none of some others
differs_from_each : (card : Card) (cards : List Card) → list_any (is_same_card card) cards ≡ false
    → All (λ other. card ≢ other) cards
differs_from_each card cards none = λ k d within.
    differ-from_is_same_card card (slice_index_or cards k d)
    (false_from_ne_true (is_same_card card (slice_index_or cards k d))
    (λ passed. cc (none, list_any_at (is_same_card card) cards k d within passed)))

-- where no card comes twice, each differs from each later one
pub AllPairs-from_repeats_none : (cards : List Card) → repeats_a_card cards ≡ false
    → AllPairs (λ one other. one ≢ other) cards
AllPairs-from_repeats_none [] none = λ i j d before within. absurd (omega arith)
AllPairs-from_repeats_none (card ∷ cards) none =
    let parts = or_parts (list_any (is_same_card card) cards) (repeats_a_card cards) none in
    AllPairs-cons (λ one other. one ≢ other) card cards (differs_from_each card cards parts.0)
    (AllPairs-from_repeats_none cards parts.1)

-- 52 cards that are no deck repeat a card
pub repeats-unless_deck : (cards : List Card) → length cards ≡ 52 → (IsDeck cards → ⊥) → repeats_a_card cards ≡ true
repeats-unless_deck cards size never =
    true_from_ne_false (repeats_a_card cards)
    (λ none. never (record { whole = size; distinct = AllPairs-from_repeats_none cards none }))
