-- Each player's best card of a race, and how many players have a better one.
use Rattle.std.specs.Prelude.{ℕ, nat_lt, Bool, false, if◌then◌else◌, List, [], ◌∷◌, Option, Some, None, take, drop, fold, count_by}
use Rattle.card_set.specs.declared.card.Card.{Card}
use Rattle.chip_race.specs.Races.{odd_chips, is_higher}

-- The better of the best card so far and one more.
abbrev pub better : Option Card → Card → Option Card
better None card = Some card
better (Some best) card = if is_higher card best then Some card else Some best

-- The highest of some cards.
abbrev pub highest : List Card → Option Card
highest cards = fold better None cards

-- Each player's best card, by the index of his seat.
unfoldable pub best_cards : ℕ → ℕ → List ℕ → List Card → List (Option Card)
best_cards old new [] cards = []
best_cards old new (stack ∷ stacks) cards =
    highest (take (odd_chips old new stack) cards) ∷ best_cards old new stacks (drop (odd_chips old new stack) cards)

-- Whether a player's best card is higher than this one.
abbrev pub is_ahead : Option Card → Card → Bool
is_ahead None mine = false
is_ahead (Some card) mine = is_higher card mine

-- A player is among the first so many by their best cards where he has a card and fewer players than that have a
-- better one.
abbrev pub is_among_first : List (Option Card) → ℕ → Option Card → Bool
is_among_first best chips None = false
is_among_first best chips (Some mine) = nat_lt (count_by (λ other. is_ahead other mine) best) chips
