-- Which cards of a hand are shown to a player, by their places in the deck. This project's own.
use Rattle.std.specs.Prelude.{ℕ, Bool, ◌&&◌, not, List, [], ◌∷◌, ◌++◌, map, filter, Option, is_some, option_and_then, if◌then◌else◌}
use Rattle.std.specs.List.{flat_map}
use Rattle.std.specs.Option.{option_map_or}
use Rattle.rulebook.specs.Seats.{people_clockwise_after}
use Rattle.button_blinds.specs.SeatSets.{seat_count}
use Rattle.betting_round.specs.StreetActs.{street_after}
use Rattle.betting_round.specs.WhoIsDue.{due_seat}
use Rattle.deal_order.specs.DealOrder.{board_card_place, places_of_player}
use Rattle.table_engine.specs.declared.start.HandStart.{HandStart}
use Rattle.table_engine.specs.declared.start.StartSeat.{StartSeat}
use Rattle.table_engine.specs.Deals.{dealt_seats, hole_count}
use Rattle.table_engine.specs.Hands.{HandTerms, StreetPlayed, streets_of, seat_of_name, is_over, is_live}
use Rattle.table_engine.specs.Results.{is_won_by_folds}

-- Who is told: a player by his name, or nobody, who may know just what everybody may.
abbrev pub Viewer : Type 0
Viewer = Option (List ℕ)

-- The streets that bring cards to the board.
pub data BoardStreet : Type 0 where
  Flop : BoardStreet
  Turn : BoardStreet
  River : BoardStreet

-- The cards of the board that a street brings, counted from 0.
abbrev pub cards_of_street : BoardStreet → List ℕ
cards_of_street Flop = 0 ∷ 1 ∷ 2 ∷ []
cards_of_street Turn = 3 ∷ []
cards_of_street River = 4 ∷ []

-- The street that follows those that were played. The first of a hand brings no cards.
abbrev pub street_behind : List StreetPlayed → List BoardStreet
street_behind [] = []
street_behind (first ∷ []) = Flop ∷ []
street_behind (second ∷ first ∷ []) = Turn ∷ []
street_behind (third ∷ second ∷ first ∷ before) = River ∷ []

-- Some player was due on a street. It is asked as the street begins: where nobody is due then, nobody acts on it.
abbrev pub was_due : StreetPlayed → Bool
was_due played = is_some (due_seat (street_after played.start []))

-- The streets with cards on which some player was due, in the order of play. Of those played, the newest is listed
-- first.
abbrev pub due_streets : List StreetPlayed → List BoardStreet
due_streets [] = []
due_streets (played ∷ before) = due_streets before ++ (if was_due played then street_behind before else [])

-- A hand is shown down where it is over with two or more live players.
abbrev pub is_shown_down : HandTerms → Bool
is_shown_down hand = is_over hand && not (is_won_by_folds hand)

-- The streets that are open: those on which some player was due, and all once the hand is shown down.
unfoldable pub open_streets : HandTerms → List BoardStreet
open_streets hand =
    if is_shown_down hand then Flop ∷ Turn ∷ River ∷ []
    else due_streets ((streets_of hand).last ∷ (streets_of hand).before)

-- The players of a hand, clockwise from the seat after the button.
abbrev pub players_clockwise : HandStart → List StartSeat
players_clockwise start = people_clockwise_after (λ player. player.seat) start.seats start.marks.button

-- The players whose hands are tabled: all live ones, once the hand is shown down.
unfoldable pub tabled_players : HandTerms → List StartSeat
tabled_players hand = if is_shown_down hand then filter (is_live hand) (players_clockwise hand.start) else []

-- The places of the hole cards of the player in a seat, in the order dealt.
unfoldable pub hole_places : HandStart → ℕ → List ℕ
hole_places start seat =
    places_of_player (dealt_seats start) start.marks.button start.seat_count (hole_count start.game) seat

-- The places of a player's own hole cards, where he is dealt in.
abbrev pub own_places : Viewer → HandStart → List ℕ
own_places who start = option_map_or (hole_places start) (option_and_then (seat_of_name start) who) []

-- The places of the cards that a street brings.
unfoldable pub street_places : HandStart → BoardStreet → List ℕ
street_places start street =
    map (board_card_place (seat_count (dealt_seats start)) (hole_count start.game)) (cards_of_street street)

-- The places that are shown to a player: those of his own hole cards, those of the board of each street on which some
-- player was due, and, once the hand is over with two or more live players, those of the whole board and of the hole
-- cards of all who are live.
abbrev pub places_shown : Viewer → HandTerms → List ℕ
places_shown who hand =
    own_places who hand.start
    ++ flat_map (street_places hand.start) (open_streets hand)
    ++ flat_map (λ player. hole_places hand.start player.seat) (tabled_players hand)
