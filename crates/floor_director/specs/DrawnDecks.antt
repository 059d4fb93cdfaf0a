-- The deck of a draw. This project's own.
use Rattle.std.specs.Prelude.{ℕ, codes, List, [], unwrap_or}
use Rattle.card_set.specs.declared.card.Card.{Card}
use Rattle.card_set.specs.Cards.{cards_of}
use Rattle.break_draw.specs.declared.random.DrawKind.TheVariants.{Deck}
use Rattle.break_draw.specs.Generator.{drawn_order}

-- The text of the deck in order: from the twos to the aces, and of each rank clubs, diamonds, hearts and spades.
abbrev pub sorted_text : List ℕ
sorted_text =
    codes "2c2d2h2s3c3d3h3s4c4d4h4s5c5d5h5s6c6d6h6s7c7d7h7s8c8d8h8s9c9d9h9sTcTdThTsJcJdJhJsQcQdQhQsKcKdKhKsAcAdAhAs"

-- The cards of the deck in order.
unfoldable pub sorted_cards : List Card
sorted_cards = unwrap_or (cards_of sorted_text) []

-- The cards of the deck that is drawn by a seed and a number: those of the deck in order, in the order of the draw.
abbrev pub deck_drawn : List ℕ → ℕ → List Card
deck_drawn seed number = drawn_order seed Deck number sorted_cards
