-- What a hand that is over comes to. The Poker TDA Rules: where one player alone is live he gets everything, and else
-- all live hands are tabled.
use Rattle.std.specs.Prelude.{ℕ, ◌+◌, ◌-◌, Bool, false, List, map, sum_by, Option, Some, None, slice_index_or, if◌then◌else◌}
use Rattle.std.specs.List.{zip}
use Rattle.std.specs.Option.{option_map_or}
use Rattle.betting_round.specs.declared.bettor.Player.{Player}
use Rattle.betting_round.specs.declared.street.Street.{Street}
use Rattle.betting_round.specs.WhoIsDue.{is_one_live, player_in}
use Rattle.pot_layers.specs.declared.put.Put.{Put}
use Rattle.pot_layers.specs.declared.pot_list.Pot.{Pot}
use Rattle.pot_layers.specs.Layers.{layers}
use Rattle.showdown.specs.declared.live.Live.{Live}
use Rattle.showdown.specs.Awards.{awards_of}
use Rattle.showdown.specs.Hands.{hands_of}
use Rattle.table_engine.specs.declared.start.HandStart.{HandStart}
use Rattle.table_engine.specs.declared.start.StartSeat.{StartSeat}
use Rattle.table_engine.specs.Deals.{board_of, tabled}
use Rattle.table_engine.specs.Hands.{HandTerms, behind, dead_chips, is_live, players_by_seat, put_in_hand, street_of}

-- All that was put in during the hand, the antes included.
abbrev pub pot : HandTerms → ℕ
pot hand = sum_by (put_in_hand hand) hand.start.seats + dead_chips hand.start

-- One player alone is live, so the hand is won without a showdown.
abbrev pub is_won_by_folds : HandTerms → Bool
is_won_by_folds hand = is_one_live (street_of hand).players

-- What a player has put in during the hand without his ante, and whether he is live. Where nobody is dealt in nothing
-- is put in.
abbrev pub put_at : HandTerms → Option StartSeat → Put
put_at hand None = record { amount = 0; live = false }
put_at hand (Some player) = record { amount = put_in_hand hand player; live = is_live hand player }

-- What was put in during the hand without the antes, by the seats 1 to 10.
unfoldable pub puts_in_hand : HandTerms → List Put
puts_in_hand hand = map (put_at hand) (players_by_seat hand.start)

-- The pots of a hand: what was put in, cut by heights, with the antes in the main pot.
unfoldable pub pots_in_hand : HandTerms → List Pot
pots_in_hand hand = layers (puts_in_hand hand) (dead_chips hand.start)

-- A player who is live on a street as it stands, with his hole cards.
abbrev pub live_on : HandStart → Street → Option StartSeat → Option Live
live_on start street None = None
live_on start street (Some player) =
    if option_map_or (λ (other : Player). other.bettor.live) (player_in street.players player.seat) false
    then Some (tabled start player.seat) else None

-- The live players of a hand with their hole cards, by the seats 1 to 10.
unfoldable pub live_in_hand : HandTerms → List (Option Live)
live_in_hand hand = map (live_on hand.start (street_of hand)) (players_by_seat hand.start)

-- The awards of a showdown, by the seats 1 to 10: all live hands are tabled, and each pot goes to the best of those who
-- are eligible for it. Units that are left over go clockwise from the seat after the button.
unfoldable pub showdown_awards : HandTerms → List ℕ
showdown_awards hand =
    awards_of (hands_of hand.start.game (board_of hand.start) (live_in_hand hand)) hand.start.blind.unit
    hand.start.marks.button
    hand.start.seat_count (pots_in_hand hand)

-- What a player gets: where one player alone is live that one gets everything, else his awards of all pots.
abbrev pub award : HandTerms → StartSeat → ℕ
award hand player =
    if is_won_by_folds hand then (if is_live hand player then pot hand else 0)
    else slice_index_or (showdown_awards hand) (player.seat - 1) 0

-- A player's stack after a hand: what he has behind, and what he gets.
abbrev pub stack_after_hand : HandTerms → StartSeat → ℕ
stack_after_hand hand player = behind hand player + award hand player

-- The stacks after a hand, in the order of its players.
abbrev pub stacks_after_hand : HandTerms → List ℕ
stacks_after_hand hand = map (stack_after_hand hand) hand.start.seats

-- A player with another stack.
abbrev pub with_stack : StartSeat → ℕ → StartSeat
with_stack player stack = record player { stack = stack }

-- Players with other stacks, each with that at his index of the list.
abbrev pub with_stacks : List StartSeat → List ℕ → List StartSeat
with_stacks players stacks = map (λ pair. with_stack pair.0 pair.1) (zip players stacks)

-- The players of a hand after it: each player of the start, with his stack after the hand.
abbrev pub players_after : HandTerms → List StartSeat
players_after hand = map (λ player. with_stack player (stack_after_hand hand player)) hand.start.seats

-- The stacks with which the players of a hand began.
abbrev pub starting_stacks : HandTerms → List ℕ
starting_stacks hand = map (λ player. player.stack) hand.start.seats
