-- Who moves where when two tables are balanced. This project's own.
use Rattle.std.specs.Prelude.{ℕ, ◌+◌, Bool, nat_lt, List, [], ◌∷◌, Option, Some, None}
use Rattle.floor_text.specs.declared.refusal.Refusal.{Refusal}
use Rattle.floor_text.specs.declared.refusal.Refusal.TheVariants.{NotFullest, NotShortest, EvenEnough}
use Rattle.button_blinds.specs.Marks.{big_after}
use Rattle.seat_book.specs.declared.seated.Seated.{Seated}
use Rattle.seat_book.specs.Players.{player_at, player_of, taken_seats, sit_down, lifted}
use Rattle.seat_book.specs.Counts.{count_at, greatest_count, least_count}
use Rattle.seat_book.specs.Tables.{status_at}
use Rattle.seat_book.specs.Seatings.{Seating}
use Rattle.balance_rule.specs.declared.balance.Move.{Move}
use Rattle.balance_rule.specs.EmptySeats.{worst_empty_seat}

-- A table has fewer players than a fullest open table.
abbrev pub is_not_fullest : Seating → ℕ → Bool
is_not_fullest seating table =
    nat_lt (count_at seating.players table) (greatest_count seating.table_count seating.players)

-- A table has more players than an open table with the fewest.
abbrev pub is_not_shortest : Seating → ℕ → Bool
is_not_shortest seating table =
    nat_lt (least_count seating.table_count seating.players) (count_at seating.players table)

-- The counts of a fullest table and of another differ by less than two.
abbrev pub is_even_enough : Seating → ℕ → ℕ → Bool
is_even_enough seating from to = nat_lt (count_at seating.players from) (count_at seating.players to + 2)

-- The checks of a balance from one open table to another.
abbrev pub balance_checks : Seating → ℕ → ℕ → List (Refusal × Bool)
balance_checks seating from to =
    (NotFullest, is_not_fullest seating from)
    ∷ (NotShortest, is_not_shortest seating to)
    ∷ (EvenEnough, is_even_enough seating from to)
    ∷ []

-- The seat that will have the next big blind at a table.
abbrev pub next_big_seat : Seating → ℕ → ℕ
next_big_seat seating table =
    big_after (status_at seating.tables table).marks (taken_seats seating.players table) seating.seat_count

-- The player who will be the next big blind at a table, if one will.
abbrev pub next_big_player : Seating → ℕ → Option Seated
next_big_player seating table =
    player_at seating.players (record { table = table; seat = next_big_seat seating table })

-- The move of a player to a seat of a table.
abbrev pub move_to : ℕ → Option Seated → Option ℕ → Option Move
move_to table (Some seated) (Some seat) =
    Some (record { player = seated.player; from = seated.place; to = record { table = table; seat = seat } })
move_to table (Some seated) None = None
move_to table None seat = None

-- The move of a balance: the player who will be the next big blind at the one table moves to the worst empty seat of
-- the other.
abbrev pub balance_move : Seating → ℕ → ℕ → Option Move
balance_move seating from to = move_to to (next_big_player seating from) (worst_empty_seat seating to)

-- The players, of whom this one has left his seat and sits down in the other place with his stack.
abbrev pub reseated : Move → Option Seated → List Seated → List Seated
reseated move_ (Some seated) players =
    sit_down (record seated { place = move_.to }) (lifted seated.player players)
reseated move_ None players = players

-- The seating after a move.
abbrev pub after_move : Move → Seating → Seating
after_move move_ seating = record seating {
  players = reseated move_ (player_of seating.players move_.player) seating.players;
}
