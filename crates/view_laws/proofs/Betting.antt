-- What is said of a hand up to its showdown is said of it with another deck.
use Rattle.std.proofs.Common.{◌≡◌, ap, ℕ, List, ◌+◌, ◌-◌}
use Rattle.std.specs.Prelude.{is_none, sum_by}
use Rattle.card_set.specs.declared.card.Card.{Card}
use Rattle.betting_round.specs.WhoIsDue.{due_seat, is_one_live}
use Rattle.table_engine.specs.declared.start.StartSeat.{StartSeat}
use Rattle.table_engine.specs.Hands.{HandTerms, Streets, street_now, dead_chips, due_in_hand, is_over, behind, playing}
use Rattle.table_engine.specs.Results.{is_won_by_folds, pot}
use Rattle.table_engine.proofs.NoCards.{redealt, streets-deck, put-deck}

-- Who is due.
pub due-deck : (hand : HandTerms) (deck : List Card) → due_in_hand (redealt hand deck) ≡ due_in_hand hand
due-deck hand deck = ap (λ (streets : Streets). due_seat (street_now streets)) (streets-deck hand deck)

-- Whether the hand is over.
pub over-deck : (hand : HandTerms) (deck : List Card) → is_over (redealt hand deck) ≡ is_over hand
over-deck hand deck = ap is_none (due-deck hand deck)

-- Whether it is won by folds.
pub won-deck : (hand : HandTerms) (deck : List Card) → is_won_by_folds (redealt hand deck) ≡ is_won_by_folds hand
won-deck hand deck = ap (λ (streets : Streets). is_one_live (street_now streets).players) (streets-deck hand deck)

-- What was put in, the antes included.
pub pot-deck : (hand : HandTerms) (deck : List Card) → pot (redealt hand deck) ≡ pot hand
pot-deck hand deck =
    λ i. sum_by (λ player. put-deck hand deck player i) hand.start.seats + dead_chips hand.start

-- What a player has behind.
pub behind-deck : (hand : HandTerms) (deck : List Card) (player : StartSeat)
    → behind (redealt hand deck) player ≡ behind hand player
behind-deck hand deck player = ap (λ (put : ℕ). playing hand.start player - put) (put-deck hand deck player)
