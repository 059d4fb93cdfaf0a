-- Empty seats, and the worst of a table's. This project's own.
use Rattle.std.specs.Prelude.{ℕ, Bool, not, ◌==◌, ◌&&◌, List, find, Option, Some, None}
use Rattle.std.specs.Option.{is_none}
use Rattle.rulebook.specs.Seats.{clockwise_after}
use Rattle.button_blinds.specs.declared.marks.Marks.{Marks}
use Rattle.seat_book.specs.declared.seated.Seated.{Seated}
use Rattle.seat_book.specs.Players.{player_at}
use Rattle.seat_book.specs.Tables.{status_at}
use Rattle.seat_book.specs.Seatings.{Seating}

-- A seat of a table is empty where nobody sits in it.
abbrev pub is_empty_seat : List Seated → ℕ → ℕ → Bool
is_empty_seat players table seat = is_none (player_at players (record { table = table; seat = seat }))

-- The first seat clockwise, from the seat after this one, that passes a test, if one does.
abbrev pub first_after : ℕ → (ℕ → Bool) → ℕ → Option ℕ
first_after seats test seat = find test (clockwise_after seats seat)

-- The lowest seat that passes a test: clockwise the first after the last seat.
abbrev pub lowest_seat : ℕ → (ℕ → Bool) → Option ℕ
lowest_seat seats test = first_after seats test seats

-- By the marks of a table's last hand: the first empty seat clockwise after the big mark, leaving out the big mark's
-- own seat. Where the table has had no hand, its lowest empty seat.
abbrev pub worst_of : ℕ → (ℕ → Bool) → Option Marks → Option ℕ
worst_of seats is_empty None = lowest_seat seats is_empty
worst_of seats is_empty (Some marks) =
    first_after seats (λ seat. is_empty seat && not (seat == marks.big)) marks.big

-- The worst empty seat of a table, if it has one: whoever comes there waits longest for the big blind.
abbrev pub worst_empty_seat : Seating → ℕ → Option ℕ
worst_empty_seat seating table =
    worst_of seating.seat_count (is_empty_seat seating.players table) (status_at seating.tables table).marks
