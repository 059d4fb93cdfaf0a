-- Cards and rows, and their text. This project's own.
use Rattle.std.specs.Prelude.{◌≡◌, ℕ, ◌+◌, ◌-◌, ◌==◌, nat_le, nat_lt, Bool, true, false, List, [], ◌∷◌, length, slice_index, codes, cond, Option, Some, None, option_map, option_and_then}
use Rattle.std.specs.List.{flat_map, position}
use Rattle.std.proofs.Common.{refl}
use Rattle.std.proofs.lemmas.Bool.{leb-true, ltb-true, eqb-true}
use Rattle.card_set.specs.declared.card.Card.{Card}
use Rattle.card_set.specs.declared.card.CardRow.{CardRow}

-- the letters of the ranks, from two to the ace
abbrev pub rank_letters : List ℕ
rank_letters = codes "23456789TJQKA"

-- the letter of a rank: the ranks 2 to 14 have the letters in this order
abbrev pub rank_letter : ℕ → ℕ
rank_letter rank = slice_index rank_letters (rank - 2)

-- the letter of a suit: c for clubs, d for diamonds, h for hearts and s for spades
abbrev pub suit_letter : ℕ → ℕ
suit_letter suit = slice_index (codes "cdhs") suit

-- the text of a card is the letter of its rank and then the letter of its suit
abbrev pub card_text : Card → List ℕ
card_text card = rank_letter card.rank ∷ suit_letter card.suit ∷ []

-- the text of cards is the texts of each of them, one after another with nothing between them
abbrev pub cards_text : List Card → List ℕ
cards_text cards = flat_map card_text cards

-- the text of a row is the text of its cards
abbrev pub row_text : List Card → List ℕ
row_text cards = cards_text cards

-- the rank that a letter spells: the one of 2 to 14 whose letter it is
abbrev pub rank_of : ℕ → Option ℕ
rank_of letter = option_map (λ index. index + 2) (position (λ known. known == letter) rank_letters)

-- the suit that a letter spells: the one of 0 to 3 whose letter it is
abbrev pub suit_of : ℕ → Option ℕ
suit_of letter = position (λ known. known == letter) (codes "cdhs")

-- the card of a rank and a suit, where the three tests of a card hold
abbrev pub card_by : (rank suit : ℕ) (two ace four : Bool)
    → nat_le 2 rank ≡ two → nat_le rank 14 ≡ ace → nat_lt suit 4 ≡ four → Option Card
card_by rank suit true true true two ace four = Some (record {
  rank = rank;
  suit = suit;
  from_two = leb-true 2 rank two;
  up_to_ace = leb-true rank 14 ace;
  one_of_four = ltb-true suit 4 four;
})
card_by rank suit _ _ _ two ace four = None

-- the card of a rank and a suit: a rank is 2 to 14, and a suit is 0 to 3
abbrev pub card_at : ℕ → ℕ → Option Card
card_at rank suit = card_by rank suit (nat_le 2 rank) (nat_le rank 14) (nat_lt suit 4) refl refl refl

-- the card that two letters spell: the letter of its rank and then the letter of its suit
unfoldable pub card_of : ℕ → ℕ → Option Card
card_of a b = option_and_then (λ rank. option_and_then (λ suit. card_at rank suit) (suit_of b)) (rank_of a)

-- the cards that bytes spell: each two bytes spell a card, with nothing between them
unfoldable pub cards_of : List ℕ → Option (List Card)
cards_of [] = Some []
cards_of (only ∷ []) = None
cards_of (a ∷ b ∷ bytes) = option_and_then (λ card. option_map (λ cards. card ∷ cards) (cards_of bytes)) (card_of a b)

-- the cards, where they are so many
abbrev pub so_many : ℕ → List Card → Option (List Card)
so_many count cards = cond (length cards == count) (Some cards) None

-- so many cards that bytes spell: just the texts of so many cards, in which a card may come twice
unfoldable pub so_many_of : ℕ → List ℕ → Option (List Card)
so_many_of count bytes = option_and_then (so_many count) (cards_of bytes)

-- the row of cards, where the test of their count holds
abbrev pub row_by : (cards : List Card) (whole : Bool) → (length cards == 52) ≡ whole → Option CardRow
row_by cards true whole = Some (record { cards = cards; whole = eqb-true (length cards) 52 whole })
row_by cards false whole = None

-- the row of 52 cards
abbrev pub row_at : List Card → Option CardRow
row_at cards = row_by cards (length cards == 52) refl

-- the row that bytes spell: just the texts of 52 cards, in which a card may come twice
unfoldable pub row_of : List ℕ → Option CardRow
row_of bytes = option_and_then row_at (cards_of bytes)
