-- Who sits where, over the list of all players who sit. This project's own.
use Rattle.std.specs.Prelude.{ℕ, Bool, true, not, ◌==◌, ◌&&◌, if◌then◌else◌, List, [], ◌∷◌, map, filter, find, insert, count_by, Option, option_map}
use Rattle.std.specs.List.{list_all, filter_map}
use Rattle.button_blinds.specs.SeatSets.{no_seats, with_seats}
use Rattle.seat_book.specs.declared.place.Place.{Place}
use Rattle.seat_book.specs.declared.seated.Seated.{Seated}
use Rattle.seat_book.specs.Places.{comes_before, are_rising}

-- The players in a list of slots, in order: a slot has a player or is empty.
abbrev pub players_in : List (Option Seated) → List Seated
players_in slots = filter_map (λ slot. slot) slots

-- A player sits at a table.
abbrev pub sits_at : ℕ → Seated → Bool
sits_at table seated = seated.place.table == table

-- A player sits in a place.
abbrev pub sits_in : Place → Seated → Bool
sits_in place seated = seated.place.table == place.table && seated.place.seat == place.seat

-- A player has this number.
abbrev pub is_numbered : ℕ → Seated → Bool
is_numbered number seated = seated.player == number

-- The player who sits in a place, if one does.
abbrev pub player_at : List Seated → Place → Option Seated
player_at players place = find (sits_in place) players

-- The player of a number, if he sits.
abbrev pub player_of : List Seated → ℕ → Option Seated
player_of players number = find (is_numbered number) players

-- Where the player of a number sits, if he does.
abbrev pub place_of : List Seated → ℕ → Option Place
place_of players number = option_map (λ seated. seated.place) (player_of players number)

-- The players who sit at a table.
abbrev pub players_at : List Seated → ℕ → List Seated
players_at players table = filter (sits_at table) players

-- The seats of a table where a player sits.
abbrev pub taken_seats : List Seated → ℕ → List Bool
taken_seats players table = with_seats no_seats (map (λ seated. seated.place.seat) (players_at players table))

-- A player sits down behind those whose places come before his.
abbrev pub sit_down : Seated → List Seated → List Seated
sit_down seated players = insert players (count_by (λ other. comes_before other.place seated.place) players) seated

-- The player of a number has left his seat.
abbrev pub lifted : ℕ → List Seated → List Seated
lifted number players = filter (λ seated. not (is_numbered number seated)) players

-- The player who sits in a place has this stack.
abbrev pub with_stack : Place → ℕ → List Seated → List Seated
with_stack place stack players =
    map (λ seated. if sits_in place seated then record seated { stack = stack } else seated) players

-- Where the players sit, in the order of their list.
abbrev pub places_of : List Seated → List Place
places_of players = map (λ seated. seated.place) players

-- The players are listed by table, at one table in rising seat, and no two sit in one place.
abbrev pub are_in_order : List Seated → Bool
are_in_order players = are_rising (places_of players)

-- No two players have one number.
abbrev pub are_apart : List Seated → Bool
are_apart [] = true
are_apart (seated ∷ players) = list_all (λ other. not (is_numbered seated.player other)) players && are_apart players
