-- The hands that are tabled. Robert's Rules of Poker: a hold'em hand is any five of the two hole cards and the board,
-- an Omaha hand is two of the four hole cards with three of the board, for high and for low.
use Rattle.std.specs.Prelude.{◌≡◌, ℕ, List, ◌++◌, take, map, Option, Some, None, option_map, slice_index_or}
use Rattle.card_set.specs.declared.card.Card.{Card}
use Rattle.card_set.specs.declared.game.Game.{Game}
use Rattle.card_set.specs.declared.game.Game.TheVariants.{Holdem, Omaha, Hilo}
use Rattle.card_choices.specs.Choices.{holdem_choices, omaha_choices, AreDistinct}
use Rattle.hand_rank.specs.BestHigh.{best_high}
use Rattle.low_rank.specs.Lows.{best_low_of}
use Rattle.showdown.specs.declared.live.Live.{Live}
use Rattle.showdown.specs.declared.hand.Hand.{Hand}

-- A player's hole cards: in hold'em the first two.
abbrev pub hole_cards : Game → Live → List Card
hole_cards Holdem player = take 2 player.hole
hole_cards Omaha player = player.hole
hole_cards Hilo player = player.hole

-- A player's high value: in hold'em the best of any five of his hole cards and the board, else of two of his hole cards
-- with three of the board.
abbrev pub high_value : Game → List Card → Live → List ℕ
high_value Holdem board player = best_high (holdem_choices (take 2 player.hole) board)
high_value Omaha board player = best_high (omaha_choices player.hole board)
high_value Hilo board player = best_high (omaha_choices player.hole board)

-- A player's low value, where he has one: only hi-lo has lows.
abbrev pub low_value : Game → List Card → Live → Option (List ℕ)
low_value Holdem board player = None
low_value Omaha board player = None
low_value Hilo board player = best_low_of (omaha_choices player.hole board)

-- A player's hand: its high value, and its low value where it has one.
abbrev pub hand_of : Game → List Card → Live → Hand
hand_of game board player = record { high = high_value game board player; low = low_value game board player }

-- The hands of the live players by seat: index 0 is seat 1.
unfoldable pub hands_of : Game → List Card → List (Option Live) → List (Option Hand)
hands_of game board live = map (λ player. option_map (hand_of game board) player) live

-- Of each live player no hole card is on the board, and no two are the same.
pub record AreDealtApart (game : Game) (board : List Card) (live : List (Option Live)) : Type 0 where
  pub each : (index : ℕ) (player : Live) → slice_index_or live index None ≡ Some player
      → AreDistinct (hole_cards game player ++ board)
