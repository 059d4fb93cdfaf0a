-- The best high hand. Values compare as lists: the first number that differs decides (Robert's Rules of Poker).
use Rattle.std.specs.Prelude.{ℕ, List, [], ◌∷◌, map}
use Rattle.std.specs.Ordering.{nat_cmp, ord_max}
use Rattle.std.specs.Cmp.Lexicographic.{slice_cmp}
use Rattle.card_set.specs.declared.card.Card.{Card}
use Rattle.hand_rank.specs.Values.{five_card_value}

-- the greater of two values
abbrev pub greater : List ℕ → List ℕ → List ℕ
greater one other = ord_max (slice_cmp nat_cmp) one other

-- the greatest of some values, and the empty list where there are none
abbrev pub greatest : List (List ℕ) → List ℕ
greatest [] = []
greatest (value ∷ values) = greater value (greatest values)

-- the greatest value of five cards over the choices that are permitted
unfoldable pub best_high : List (List Card) → List ℕ
best_high choices = greatest (map five_card_value choices)
