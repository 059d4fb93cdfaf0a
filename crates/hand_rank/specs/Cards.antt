-- How often the cards of a suit occur. This project's own.
use Rattle.std.specs.Prelude.{ℕ, ◌≤◌, ◌&&◌, ◌==◌, List, count_by}
use Rattle.card_set.specs.declared.card.Card.{Card}

-- how often ranks occur among the cards of a suit
abbrev pub count_of_suit : List Card → ℕ → ℕ → ℕ
count_of_suit cards suit rank = count_by (λ card. card.suit == suit && card.rank == rank) cards

-- each suit has each rank once at most
abbrev pub AreOnce : List Card → Type 0
AreOnce cards = (suit rank : ℕ) → count_of_suit cards suit rank ≤ 1
