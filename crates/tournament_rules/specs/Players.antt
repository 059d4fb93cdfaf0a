-- The players who are in: who of them is in a hand, who is dealt in, and who gets which stack back. This project's own.
use Rattle.std.specs.Prelude.{ℕ, Bool, not, ◌==◌, ◌&&◌, List, map, filter, find, Option, if◌then◌else◌}
use Rattle.std.specs.List.{list_any}
use Rattle.std.specs.Option.{option_map_or}
use Rattle.button_blinds.specs.SeatSets.{has_seat}
use Rattle.seat_book.specs.declared.seated.Seated.{Seated}
use Rattle.seat_book.specs.Players.{sits_at, is_numbered}
use Rattle.table_engine.specs.declared.start.HandStart.{HandStart}
use Rattle.table_engine.specs.declared.start.StartSeat.{StartSeat}
use Rattle.tournament_rules.specs.Books.{start_at, starters_of}

-- whether the player of a number is among those with whom a hand started
abbrev pub is_among : ℕ → List StartSeat → Bool
is_among number starters = list_any (λ starter. starter.player == number) starters

-- whether a player is one of those with whom a hand started: he has the number of one of them
abbrev pub is_one_of : List StartSeat → Seated → Bool
is_one_of starters player = is_among player.player starters

-- whether a player is in the hand that is played at his table
abbrev pub is_in_hand : List (Option HandStart) → Seated → Bool
is_in_hand started player = is_one_of (starters_of (start_at started player.place.table)) player

-- whether a player is dealt in at a table: he sits there and does not wait
abbrev pub is_dealt_in : ℕ → List Bool → Seated → Bool
is_dealt_in table waiting player = sits_at table player && not (has_seat waiting player.place.seat)

-- a player as he starts a hand, with his stack
abbrev pub start_seat : Seated → StartSeat
start_seat player = record {
  seat = player.place.seat;
  player = player.player;
  name = player.name;
  stack = player.stack;
}

-- the players who are dealt in, in rising seat
abbrev pub dealt_seats : ℕ → List Bool → List Seated → List StartSeat
dealt_seats table waiting players = map start_seat (filter (is_dealt_in table waiting) players)

-- a player with this stack at rest
abbrev pub with_rest : Seated → ℕ → Seated
with_rest player stack = record player { stack = stack }

-- the chips of those who are dealt in go into the hand: while a player is in it he has nothing at rest
abbrev pub dealt_in : ℕ → List Bool → List Seated → List Seated
dealt_in table waiting players =
    map (λ player. if is_dealt_in table waiting player then with_rest player 0 else player) players

-- a player once stacks went back: the stack that is named for his number, if one is, else the one that he has
abbrev pub paid : List StartSeat → Seated → Seated
paid payees player =
    option_map_or (λ payee. with_rest player payee.stack) (find (λ payee. payee.player == player.player) payees) player

-- stacks go back to those to whom they belong, by their numbers; all others stay as they are
abbrev pub put_back : List StartSeat → List Seated → List Seated
put_back payees players = map (paid payees) players

-- the players who stay when some leave their seats
abbrev pub stayed : List StartSeat → List Seated → List Seated
stayed leaving players = filter (λ player. not (is_one_of leaving player)) players

-- one stack goes back to the player to whom it belongs, by his number
abbrev pub pay_one : List Seated → StartSeat → List Seated
pay_one players payee =
    map (λ player. if is_numbered payee.player player then with_rest player payee.stack else player) players
