-- Which card of the deck goes where, by its place in the deck, counted from 0 at the top. Robert's Rules of Poker:
-- cards are dealt clockwise, one at a time, the first to the left of the button, and a card is burned before the flop,
-- before the turn and before the river.
use Rattle.std.specs.Prelude.{ℕ, zero, suc, ◌+◌, ◌*◌, Bool, ◌==◌, nat_lt, List, [], ◌∷◌, ◌++◌, map, if◌then◌else◌}
use Rattle.rulebook.specs.Seats.{occupied_clockwise_after}
use Rattle.button_blinds.specs.SeatSets.{has_seat, seat_count}

-- The seats that are dealt in, in the order of the deal: clockwise from the seat after the button.
abbrev pub dealt_in_order : List Bool → ℕ → ℕ → List ℕ
dealt_in_order dealt button seats = occupied_clockwise_after seats (has_seat dealt) button

-- How many seats of a list come before this one.
abbrev pub index_in : ℕ → List ℕ → ℕ
index_in seat [] = 0
index_in seat (other ∷ seats) = if other == seat then 0 else index_in seat seats + 1

-- The place of a seat's hole card, counted from 0: the cards are dealt in rounds, one to each player.
abbrev pub hole_card_place : List Bool → ℕ → ℕ → ℕ → ℕ → ℕ
hole_card_place dealt button seats seat card =
    card * seat_count dealt + index_in seat (dealt_in_order dealt button seats)

-- How many cards are burned before a card of the board: one before the flop, one before the turn and one before the
-- river.
abbrev pub burned_before : ℕ → ℕ
burned_before card = if nat_lt card 3 then 1 else if nat_lt card 4 then 2 else 3

-- How many cards of the board are dealt before a burned card: none, the flop, and the flop and the turn.
abbrev pub board_before : ℕ → ℕ
board_before burned = if nat_lt burned 1 then 0 else if nat_lt burned 2 then 3 else 4

-- The place of a card of the board, after all hole cards.
abbrev pub board_card_place : ℕ → ℕ → ℕ → ℕ
board_card_place dealt holes card = holes * dealt + card + burned_before card

-- The place of a burned card, after all hole cards.
abbrev pub burned_card_place : ℕ → ℕ → ℕ → ℕ
burned_card_place dealt holes burned = holes * dealt + burned + board_before burned

-- The places of one round of hole cards, in the order of the deal.
abbrev pub round_places : List Bool → ℕ → ℕ → ℕ → List ℕ
round_places dealt button seats card =
    map (λ seat. hole_card_place dealt button seats seat card) (dealt_in_order dealt button seats)

-- The places of all hole cards, in the order of the deal.
abbrev pub hole_places : List Bool → ℕ → ℕ → ℕ → List ℕ
hole_places dealt button seats zero = []
hole_places dealt button seats (suc holes) =
    hole_places dealt button seats holes ++ round_places dealt button seats holes

-- The places of the burned cards and the board, in the order of the deal.
abbrev pub board_places : ℕ → ℕ → List ℕ
board_places dealt holes =
    burned_card_place dealt holes 0 ∷
    board_card_place dealt holes 0 ∷ board_card_place dealt holes 1 ∷ board_card_place dealt holes 2 ∷
    burned_card_place dealt holes 1 ∷ board_card_place dealt holes 3 ∷
    burned_card_place dealt holes 2 ∷ board_card_place dealt holes 4 ∷ []

-- The places of all cards of a hand, in the order of the deal.
abbrev pub deal_places : List Bool → ℕ → ℕ → ℕ → List ℕ
deal_places dealt button seats holes = hole_places dealt button seats holes ++ board_places (seat_count dealt) holes

-- So many numbers, one after another from this one.
abbrev pub count_up : ℕ → ℕ → List ℕ
count_up from zero = []
count_up from (suc more) = from ∷ count_up (from + 1) more

-- The places of a player's hole cards, in the order of the deal.
abbrev pub places_of_player : List Bool → ℕ → ℕ → ℕ → ℕ → List ℕ
places_of_player dealt button seats holes seat = map (hole_card_place dealt button seats seat) (count_up 0 holes)

-- The places of the cards of the board.
abbrev pub places_of_board : ℕ → ℕ → List ℕ
places_of_board dealt holes = map (board_card_place dealt holes) (count_up 0 5)
