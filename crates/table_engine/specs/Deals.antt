-- The cards of a hand, from its deck by the order of the deal. Robert's Rules of Poker.
use Rattle.std.specs.Prelude.{ℕ, ◌%◌, Bool, List, [], ◌∷◌, map, refl, slice_index_or}
use Rattle.std.specs.Option.{is_some}
use Rattle.std.proofs.Common.{lit<, lit≤}
use Rattle.button_blinds.specs.SeatSets.{seat_count}
use Rattle.card_set.specs.declared.card.Card.{Card}
use Rattle.card_set.specs.declared.game.Game.{Game}
use Rattle.card_set.specs.declared.game.Game.TheVariants.{Holdem}
use Rattle.deal_order.specs.DealOrder.{board_card_place, deal_places, hole_card_place}
use Rattle.showdown.specs.declared.live.Live.{Live}
use Rattle.table_engine.specs.declared.start.HandStart.{HandStart}
use Rattle.table_engine.specs.Hands.{players_by_seat}

-- The card that stands for a place past a deck's end. No card of a hand has such a place.
abbrev pub two_of_clubs : Card
two_of_clubs = record { rank = 2; suit = 0; from_two = lit≤ tt; up_to_ace = lit≤ tt; one_of_four = lit< tt }

-- The card of a hand at a place of its deck, counted from 0 at the top.
abbrev pub card_at : HandStart → ℕ → Card
card_at start place = slice_index_or start.deck place two_of_clubs

-- The seats that are dealt in.
unfoldable pub dealt_seats : HandStart → List Bool
dealt_seats start = map is_some (players_by_seat start)

-- How many hole cards each player is dealt.
abbrev pub hole_count : Game → ℕ
hole_count Holdem = 2
hole_count game = 4

-- All cards that are dealt, in the order of the deal: the hole cards, and then the board with the burned cards.
unfoldable pub dealt_cards : HandStart → List Card
dealt_cards start =
    map (card_at start) (deal_places (dealt_seats start) start.marks.button start.seat_count (hole_count start.game))

-- A player's hole card, counted from 0, by his seat.
abbrev pub hole_card : HandStart → ℕ → ℕ → Card
hole_card start seat card = card_at start (hole_card_place (dealt_seats start) start.marks.button start.seat_count seat
    card)

-- A card of the board, counted from 0.
abbrev pub board_card : HandStart → ℕ → Card
board_card start card = card_at start (board_card_place (seat_count (dealt_seats start)) (hole_count start.game) card)

-- The board: the flop, the turn and the river.
unfoldable pub board_of : HandStart → List Card
board_of start = map (board_card start) (0 ∷ 1 ∷ 2 ∷ 3 ∷ 4 ∷ [])

-- A showdown lists four hole cards of a player. In hold'em his two stand there twice.
abbrev pub listed : Game → ℕ → ℕ
listed Holdem index = index % 2
listed game index = index

-- A player at the showdown, with his hole cards.
unfoldable pub tabled : HandStart → ℕ → Live
tabled start seat = record {
  seat = seat;
  hole = hole_card start seat (listed start.game 0) ∷ hole_card start seat (listed start.game 1) ∷
      hole_card start seat (listed start.game 2) ∷ hole_card start seat (listed start.game 3) ∷ [];
  four = refl;
}
