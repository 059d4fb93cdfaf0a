-- What each player is awarded. The Poker TDA Rules: each side pot is split on its own; the odd chip goes to the first
-- winner to the left of the button, and in high-low games to the high side. This project's own: where the winners of
-- both sides are the same players, the pot is split once among them.
use Rattle.std.specs.Prelude.{ℕ, zero, suc, ◌+◌, ◌==◌, ◌&&◌, ◌||◌, nat_le, if◌then◌else◌, Bool, List, [], ◌∷◌, length, replicate, fold, Option, slice_set, slice_index_or}
use Rattle.rulebook.specs.Seats.{occupied_clockwise_after}
use Rattle.button_blinds.specs.SeatSets.{has_seat, seat_count}
use Rattle.pot_layers.specs.declared.pot_list.Pot.{Pot}
use Rattle.pot_layers.specs.Layers.{are_same_seats}
use Rattle.pot_layers.specs.Shares.{share_of, high_half, low_half}
use Rattle.showdown.specs.declared.hand.Hand.{Hand}
use Rattle.showdown.specs.declared.hand.Side.TheVariants.{High, Low}
use Rattle.showdown.specs.Winners.{in_play, winners}

-- The seats of tables are numbered from 1 to 10.
abbrev pub is_seat : ℕ → Bool
is_seat seat = nat_le 1 seat && nat_le seat 10

-- The winners in turn: clockwise from the seat after the button.
abbrev pub in_turn : ℕ → ℕ → List Bool → List ℕ
in_turn seats button set = occupied_clockwise_after seats (has_seat set) button

-- The awards by seat, once the player in a seat is awarded so much more.
abbrev pub award_to : List ℕ → ℕ → ℕ → List ℕ
award_to awards zero amount = awards
award_to awards (suc index) amount = slice_set awards index (slice_index_or awards index 0 + amount)

-- So many winners share an amount: those who are left, from the one at this index on, are paid in turn.
abbrev pub pay_in_turn : ℕ → ℕ → ℕ → List ℕ → ℕ → List ℕ → List ℕ
pay_in_turn amount unit count awards index [] = awards
pay_in_turn amount unit count awards index (seat ∷ more) =
    pay_in_turn amount unit count (award_to awards seat (share_of amount unit count index)) (suc index) more

-- An amount is split among the winners in turn.
unfoldable pub split : ℕ → ℕ → List ℕ → List ℕ → List ℕ
split amount unit awards order = pay_in_turn amount unit (length order) awards 0 order

-- A pot goes to those of its eligible players who win: with no qualifying low the high side takes all, and where both
-- sides have the same winners they split it once; else each side splits its half.
unfoldable pub award_pot : List (Option Hand) → ℕ → ℕ → ℕ → List ℕ → Pot → List ℕ
award_pot hands unit button seats awards pot =
    let rivals = in_play pot.eligible hands in
    let highs = winners High rivals in
    let lows = winners Low rivals in
    if seat_count lows == 0 || are_same_seats highs lows
    then split pot.amount unit awards (in_turn seats button highs)
    else split (low_half pot.amount unit) unit
    (split (high_half pot.amount unit) unit awards (in_turn seats button highs)) (in_turn seats button lows)

-- The awards of all pots by seat: index 0 is seat 1.
unfoldable pub awards_of : List (Option Hand) → ℕ → ℕ → ℕ → List Pot → List ℕ
awards_of hands unit button seats pots = fold (award_pot hands unit button seats) (replicate 10 0) pots
