-- A chip race at a table, from an old unit to a new one. The Poker TDA Rules and Robert's Rules of Poker: odd chips
-- are raced off by cards that are dealt in seat order, the highest single cards win one chip each of the new unit, at
-- most one to a player, and nobody is raced out of play.
use Rattle.std.specs.Prelude.{ℕ, suc, ◌+◌, ◌-◌, ◌/◌, ◌%◌, ◌==◌, ◌&&◌, ◌||◌, nat_lt, Bool, not, if◌then◌else◌, List, [], ◌∷◌, ◌++◌, take, drop, map, filter, sum_by}
use Rattle.std.specs.List.{list_any, list_all, enumerate_from}
use Rattle.card_set.specs.declared.card.Card.{Card}
use Rattle.chip_race.specs.declared.race_result.RaceResult.{RaceResult}

-- All stacks are whole chips of a unit.
abbrev pub are_whole : ℕ → List ℕ → Bool
are_whole unit stacks = list_all (λ stack. stack % unit == 0) stacks

-- A player's odd value is what his stack has above a whole number of chips of the new unit.
abbrev pub odd_value : ℕ → ℕ → ℕ
odd_value new stack = stack % new

-- He gets one card for each odd chip of the old unit. This project's own.
abbrev pub odd_chips : ℕ → ℕ → ℕ → ℕ
odd_chips old new stack = odd_value new stack / old

-- A card of the race, and its player by the index of his seat: index 0 is seat 1.
pub record SingleCard : Type 0 where
  pub index : ℕ
  pub card : Card

-- The cards of one player.
abbrev pub cards_for : ℕ → List Card → List SingleCard
cards_for index cards = map (λ card. record { index = index; card = card }) cards

-- Cards go from the top of the deck, players in rising seat from this index on, each player's cards together.
unfoldable pub single_cards : ℕ → ℕ → ℕ → List ℕ → List Card → List SingleCard
single_cards old new index [] cards = []
single_cards old new index (stack ∷ stacks) cards =
    cards_for index (take (odd_chips old new stack) cards)
    ++ single_cards old new (suc index) stacks (drop (odd_chips old new stack) cards)

-- One card is higher than another by rank, and of the same rank by suit: spades, hearts, diamonds, clubs.
abbrev pub is_higher : Card → Card → Bool
is_higher one other = nat_lt other.rank one.rank || (one.rank == other.rank && nat_lt other.suit one.suit)

-- A card goes into an ordered list before the first card that it is higher than.
unfoldable pub put_in_order : SingleCard → List SingleCard → List SingleCard
put_in_order single [] = single ∷ []
put_in_order single (other ∷ others) =
    if is_higher single.card other.card then single ∷ other ∷ others else other ∷ put_in_order single others

-- All single cards in one ordered list, the highest first.
unfoldable pub ordered : List SingleCard → List SingleCard
ordered [] = []
ordered (single ∷ singles) = put_in_order single (ordered singles)

-- The players in the order of their cards, each of them once, at his highest card.
unfoldable pub players_in_order : List SingleCard → List ℕ
players_in_order [] = []
players_in_order (single ∷ singles) =
    single.index ∷ filter (λ index. not (index == single.index)) (players_in_order singles)

-- The odd values of all players are removed.
abbrev pub removed_value : ℕ → List ℕ → ℕ
removed_value new stacks = sum_by (odd_value new) stacks

-- The number of chips that are awarded is their sum divided by the new unit, rounded down. This project's own.
abbrev pub awarded_chips : ℕ → List ℕ → ℕ
awarded_chips new stacks = removed_value new stacks / new

-- So many chips go one each to the players with the highest single cards.
unfoldable pub winners : ℕ → ℕ → ℕ → List ℕ → List Card → List ℕ
winners old new chips stacks cards = take chips (players_in_order (ordered (single_cards old new 0 stacks cards)))

-- Whether the player at this index is one of them.
abbrev pub is_among : List ℕ → ℕ → Bool
is_among players index = list_any (λ player. index == player) players

-- What a player has left without his odd value, and with the chip of the new unit that he may have won.
abbrev pub raced : ℕ → Bool → ℕ → ℕ
raced new has_won stack = (stack - odd_value new stack) + (if has_won then new else 0)

-- The protection: a player whose stack is then 0 gets one chip of the new unit. An empty seat has no stack and no
-- player.
abbrev pub is_protected : ℕ → Bool → ℕ → Bool
is_protected new has_won stack = nat_lt 0 stack && raced new has_won stack == 0

-- The value that a player is given: the chip that he has won, and the chip that protects him.
abbrev pub given_value : ℕ → Bool → ℕ → ℕ
given_value new has_won stack = (if has_won then new else 0) + (if is_protected new has_won stack then new else 0)

-- His stack after the race.
abbrev pub stack_after : ℕ → Bool → ℕ → ℕ
stack_after new has_won stack = (stack - odd_value new stack) + given_value new has_won stack

-- The stacks after the race, of the players from this index on.
abbrev pub stacks_after : ℕ → List ℕ → ℕ → List ℕ → List ℕ
stacks_after new players index stacks =
    map (λ seat. stack_after new (is_among players seat.0) seat.1) (enumerate_from index stacks)

-- All chips of the new unit that are given are added.
abbrev pub added_value : ℕ → List ℕ → ℕ → List ℕ → ℕ
added_value new players index stacks =
    sum_by (λ seat. given_value new (is_among players seat.0) seat.1) (enumerate_from index stacks)

-- What a race from the old unit to the new one makes of the stacks at a table, with this deck.
unfoldable pub race_result : List ℕ → ℕ → ℕ → List Card → RaceResult
race_result stacks old new cards = record {
  stacks = stacks_after new (winners old new (awarded_chips new stacks) stacks cards) 0 stacks;
  removed = removed_value new stacks;
  added = added_value new (winners old new (awarded_chips new stacks) stacks cards) 0 stacks;
}
