-- The deck of a draw is a deck.
use Rattle.std.proofs.Common.{◌≡◌, ◌∙◌, refl, sym, ap, ℕ, ◌+◌, ◌/◌, ◌%◌, ◌<◌, Bool, true, List, length, get_or, arith}
use Rattle.std.specs.Prelude.{◌==◌, ◌&&◌, IsPermutation}
use Rattle.std.specs.Bool.{Decides}
use Rattle.std.proofs.lemmas.Bool.{and_parts, eqb-true}
use Rattle.std.proofs.lemmas.Bool.Decides.{nat_tests}
use Rattle.std.proofs.lemmas.List.{same_lists}
use Rattle.std.proofs.lemmas.List.Sorted.{length_permutation}
use Rattle.std.proofs.lemmas.Map.Keys.{IsDistinct-IsPermutation}
use Rattle.std.proofs.lemmas.Map.Made.{AllPairs-from_IsDistinct, IsDistinct-from_AllPairs}
use Rattle.rulebook.proofs.Tests.{eqb-swap}
use Rattle.card_set.specs.declared.card.Card.{Card}
use Rattle.card_set.specs.Cards.{card_of, cards_of}
use Rattle.card_set.specs.Decks.{IsDeck, IsInOrder, is_same_card}
use Rattle.card_set.proofs.CardLaws.{same_card, same-from_is_same_card}
use Rattle.card_set.proofs.Computed.{all_below, holds_below}
use Rattle.card_set.proofs.DeckLaws.{in_order_is_deck}
use Rattle.break_draw.specs.declared.random.DrawKind.TheVariants.{Deck}
use Rattle.break_draw.proofs.Shuffles.{drawn-permutes}
use Rattle.floor_director.specs.DrawnDecks.{deck_drawn, sorted_cards}

same-passes : (one other : Card) → one ≡ other → is_same_card one other ≡ true
same-passes one other same =
    let ranks : one.rank ≡ other.rank = ap (λ (card : Card). card.rank) same in
    let suits : one.suit ≡ other.suit = ap (λ (card : Card). card.suit) same in
    grind (arith, nat_tests)

decides-same : (one other : Card) → Decides (is_same_card one other) (one ≡ other)
decides-same one other = (same-from_is_same_card one other, same-passes one other)

flips-same : (one other : Card) → is_same_card one other ≡ is_same_card other one
flips-same one other =
    λ i. eqb-swap one.rank other.rank i && eqb-swap one.suit other.suit i

-- A deck in another order is a deck.
pub deck-reordered : (cards now : List Card) → IsPermutation cards now → IsDeck cards → IsDeck now
deck-reordered cards now same deck = record {
  whole = length_permutation cards now same ∙ deck.whole;
  distinct = AllPairs-from_IsDistinct decides-same now
      (IsDistinct-IsPermutation is_same_card flips-same cards now same
      (IsDistinct-from_AllPairs decides-same cards deck.distinct));
}

-- what a card in order is at an index
is_at : ℕ → Card → Bool
is_at index card = card.rank == 2 + index / 4 && card.suit == index % 4

sorted-at : (index : ℕ) (other : Card) → index < 52
    → ((get_or sorted_cards index other).rank ≡ 2 + index / 4) × ((get_or sorted_cards index other).suit ≡ index % 4)
unfolding sorted_cards cards_of card_of all_below is_at
sorted-at index other within =
    let at = holds_below (λ n. is_at n (get_or sorted_cards n other)) 52 index refl within in
    let parts = and_parts ((get_or sorted_cards index other).rank == 2 + index / 4)
    ((get_or sorted_cards index other).suit == index % 4) at in (
      eqb-true (get_or sorted_cards index other).rank (2 + index / 4) parts.0,
      eqb-true (get_or sorted_cards index other).suit (index % 4) parts.1,
    )

sorted-length : length sorted_cards ≡ 52
unfolding sorted_cards cards_of card_of
sorted-length = refl

-- A row in order is the deck in order.
pub in_order-sorted : (cards : List Card) → length cards ≡ 52 → IsInOrder cards → cards ≡ sorted_cards
in_order-sorted cards whole order = same_lists cards sorted_cards (whole ∙ sym sorted-length)
    (λ index other less.
    let within : index < 52 = omega (arith, whole, less) in
    let here = order index other within in
    let there = sorted-at index other within in
    same_card (get_or cards index other) (get_or sorted_cards index other) (here.0 ∙ sym there.0)
    (here.1 ∙ sym there.1))

-- The deck that is drawn is a deck.
pub drawn-deck : (seed : List ℕ) (number : ℕ) → IsDeck (deck_drawn seed number)
drawn-deck seed number = deck-reordered sorted_cards (deck_drawn seed number)
    (drawn-permutes seed Deck number sorted_cards) (in_order_is_deck sorted_cards sorted-length sorted-at)
