-- Changes of cards that change no value: of their order and of their suits.
use Rattle.std.specs.Prelude.{◌≡◌, ℕ, List, [], ◌∷◌}
use Rattle.card_set.specs.declared.card.Card.{Card}

-- cards with other suits: each has the rank of the other, and the suit that the other's suit is renamed to
abbrev pub AreRenamed : (ℕ → ℕ) → List Card → List Card → Type 0
AreRenamed suit [] [] = Unit {0}
AreRenamed suit [] (other ∷ others) = ⊥
AreRenamed suit (card ∷ cards) [] = ⊥
AreRenamed suit (card ∷ cards) (other ∷ others) =
    (other.rank ≡ card.rank) × (other.suit ≡ suit card.suit) × AreRenamed suit cards others

-- suits are renamed one to one: no two of them get the same name
abbrev pub IsOneToOne : (ℕ → ℕ) → Type 0
IsOneToOne suit = (one other : ℕ) → suit one ≡ suit other → one ≡ other
