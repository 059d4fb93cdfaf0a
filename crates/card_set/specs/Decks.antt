-- Decks. This project's own.
use Rattle.std.specs.Prelude.{◌≡◌, ◌≢◌, ℕ, ◌+◌, ◌-◌, ◌*◌, ◌/◌, ◌%◌, ◌<◌, Bool, false, ◌==◌, ◌&&◌, ◌||◌, List, [], ◌∷◌, length}
use Rattle.std.specs.List.{AllPairs, slice_index_or, list_any}
use Rattle.card_set.specs.declared.card.Card.{Card}

-- a deck is a row of 52 cards in which no card comes twice: each card differs from each later one
pub record IsDeck (cards : List Card) : Type 0 where
  pub whole : length cards ≡ 52
  pub distinct : AllPairs (λ one other. one ≢ other) cards

-- whether two cards are the same card: their ranks are equal, and so are their suits
abbrev pub is_same_card : Card → Card → Bool
is_same_card one other = one.rank == other.rank && one.suit == other.suit

-- whether a card comes twice in a list of cards: the first card is the same as a later one, or a card comes twice in
-- the rest
abbrev pub repeats_a_card : List Card → Bool
repeats_a_card [] = false
repeats_a_card (card ∷ cards) = list_any (is_same_card card) cards || repeats_a_card cards

-- the index of a card in a deck that is in order: by rank from the twos, and of each rank by suit
abbrev pub index_of : Card → ℕ
index_of card = (card.rank - 2) * 4 + card.suit

-- in order, the card at each index has a rank that is 2 more than the index divided by 4, and the
-- remainder is its suit: from the twos to the aces, and of each rank clubs, diamonds, hearts, spades
abbrev pub IsInOrder : List Card → Type 0
IsInOrder cards = (index : ℕ) (other : Card) → index < 52
    → ((slice_index_or cards index other).rank ≡ 2 + index / 4)
    × ((slice_index_or cards index other).suit ≡ index % 4)
