-- The text of cards, card by card. This project's own.
use Rattle.std.proofs.Common.{◌≡◌, ℕ, suc, zero, ◌+◌, ◌*◌, ◌<◌, List, [], ◌∷◌, ◌++◌, length, take, slice_index, slice_index_or, slice_set, arith, refl, ap, append_assoc}
use Rattle.std.proofs.lemmas.List.{take_more, take_more_set}
use Rattle.std.proofs.lemmas.Grind.{flat_map-append}
use Rattle.card_set.specs.declared.card.Card.{Card}
use Rattle.card_set.specs.Cards.{card_text, cards_text}

-- each card takes two bytes
pub length-cards_text : (cards : List Card) → length (cards_text cards) ≡ 2 * length cards
length-cards_text [] = refl
length-cards_text (card ∷ cards) = omega (arith, length-cards_text cards)

-- the text of the card at an index stands at twice the index
pub card_text-at : (cards : List Card) (index : ℕ) (other : Card) → index < length cards
    → card_text (slice_index_or cards index other) ≡ slice_index (cards_text cards) (2 * index) ∷ slice_index
    (cards_text cards) (2 * index + 1) ∷ []
card_text-at [] index other within = absurd (omega arith)
card_text-at (card ∷ cards) zero other within = refl
card_text-at (card ∷ cards) (suc index) other within =
    let even : 2 * suc index ≡ suc (suc (2 * index)) = omega arith in
    let odd : 2 * suc index + 1 ≡ suc (suc (2 * index + 1)) = omega arith in
    rw (odd, even) (card_text-at cards index other (omega arith))

-- one more card that is spelled by the next two bytes
pub cards_text-more : (cards : List Card) (index : ℕ) (card : Card) (bytes : List ℕ) → index < length cards
    → 2 * index + 1 < length bytes → cards_text (take index cards) ≡ take (2 * index) bytes
    → card_text card ≡ slice_index bytes (2 * index) ∷ slice_index bytes (2 * index + 1) ∷ []
    → cards_text (take (index + 1) (slice_set cards index card)) ≡ take (2 * (index + 1)) bytes
cards_text-more cards index card bytes within room read spelled =
    let cards_more : take (index + 1) (slice_set cards index card) ≡ take index cards ++ card ∷ [] =
    take_more_set cards index card within in
    let text_more :
    cards_text (take index cards ++ card ∷ []) ≡ cards_text (take index cards) ++ cards_text (card ∷ []) =
    flat_map-append card_text (take index cards) (card ∷ []) in
    let one_more : take (2 * index + 1) bytes ≡ take (2 * index) bytes ++ slice_index bytes (2 * index) ∷ [] =
    take_more bytes (2 * index) 0 (omega arith) in
    let two_more : take (2 * index + 1 + 1) bytes ≡ take (2 * index + 1) bytes ++ slice_index bytes
    (2 * index + 1) ∷ [] = take_more bytes (2 * index + 1) 0 room in
    let counted : 2 * (index + 1) ≡ 2 * index + 1 + 1 = omega arith in
    rw (counted, cards_more, text_more, two_more, one_more, read, append_assoc)
    (ap (λ text. take (2 * index) bytes ++ text) spelled)

-- one more card that is the only one with its text
pub take-more-same : (read cards : List Card) (index : ℕ) (card : Card) → index < length read → index < length cards
    → take index read ≡ take index cards → card ≡ slice_index_or cards index card
    → take (index + 1) (slice_set read index card) ≡ take (index + 1) cards
take-more-same read cards index card within other_within same here =
    rw (take_more_set read index card within, take_more cards index card other_within, same)
    (ap (λ next. take index cards ++ next ∷ []) here)
