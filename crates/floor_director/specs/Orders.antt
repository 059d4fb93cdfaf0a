-- The order that the floor owes, by the tables' counts. This project's own.
use Rattle.std.specs.Prelude.{ℕ, Bool, not, ◌&&◌, ◌||◌, List, find, Option, None, Some, if◌then◌else◌}
use Rattle.seat_book.specs.declared.place.Place.{Place}
use Rattle.seat_book.specs.Counts.{is_open, table_numbers}
use Rattle.seat_book.specs.Tables.{status_at}
use Rattle.seat_book.specs.Seatings.{Seating, is_not_last, is_race_pending, is_round_open}
use Rattle.balance_rule.specs.Balance.{is_even_enough, is_not_fullest, is_not_shortest}
use Rattle.balance_rule.specs.Filling.{fill_seats, names_at}
use Rattle.break_draw.specs.declared.random.DrawKind.TheVariants.{Seats, Names}
use Rattle.break_draw.specs.Generator.{drawn_order}
use Rattle.tournament_events.specs.declared.event.Event.{Event}
use Rattle.tournament_events.specs.declared.event.Event.TheVariants.{Balance, Break}

-- A table plays a hand.
abbrev pub is_playing : Seating → ℕ → Bool
is_playing seating table = (status_at seating.tables table).playing

-- A table is open, and none with a higher number is.
abbrev pub is_last_open : Seating → ℕ → Bool
is_last_open seating table = is_open seating.players table && not (is_not_last seating table)

-- The open table with the highest number, if a table is open.
unfoldable pub last_open : Seating → Option ℕ
last_open seating = find (is_last_open seating) (table_numbers seating.table_count)

-- The break of a table by a draw, where its players have seats to take.
abbrev pub drawn_break : Seating → List ℕ → ℕ → ℕ → Option (List Place) → Option Event
drawn_break seating seed number table None = None
drawn_break seating seed number table (Some fill) =
    Some (Break table (drawn_order seed Seats number fill) (drawn_order seed Names number (names_at seating table)))

-- The break of a table that is not playing, where there is such a table.
abbrev pub break_of : Seating → List ℕ → ℕ → Option ℕ → Option Event
break_of seating seed number None = None
break_of seating seed number (Some table) =
    if is_playing seating table then None else drawn_break seating seed number table (fill_seats seating table)

-- The break that is owed: of the open table with the highest number, where it is not playing and there is room.
unfoldable pub owed_break : Seating → List ℕ → ℕ → Option Event
owed_break seating seed number = break_of seating seed number (last_open seating)

-- A table may give a player: it is open and not playing, and no open table has more players.
abbrev pub may_give : Seating → ℕ → Bool
may_give seating table =
    is_open seating.players table && not (is_playing seating table) && not (is_not_fullest seating table)

-- A table may take a player: it is open, and no open table has fewer players.
abbrev pub may_take : Seating → ℕ → Bool
may_take seating table = is_open seating.players table && not (is_not_shortest seating table)

-- The first table that may give a player, if one may.
unfoldable pub giver : Seating → Option ℕ
giver seating = find (may_give seating) (table_numbers seating.table_count)

-- The first table that may take a player, if one may.
unfoldable pub taker : Seating → Option ℕ
taker seating = find (may_take seating) (table_numbers seating.table_count)

-- The balance of two tables, where their counts differ by two or more.
abbrev pub balance_of : Seating → Option ℕ → Option ℕ → Option Event
balance_of seating None to = None
balance_of seating (Some from) None = None
balance_of seating (Some from) (Some to) = if is_even_enough seating from to then None else Some (Balance from to)

-- The balance that is owed where no break is: from the first table that may give a player to the first that may take
-- one, where their counts differ by two or more.
unfoldable pub owed_balance : Seating → Option Event
owed_balance seating = balance_of seating (giver seating) (taker seating)

-- The one of two orders, where there is one, else the other.
abbrev pub first_order : Option Event → Option Event → Option Event
first_order (Some order) other = Some order
first_order None other = other

-- The order that the floor owes, if it owes one: none while a race is pending at any table or some table has begun in a
-- round of hand-for-hand; else the break, and where none is owed the balance.
unfoldable pub next_order : Seating → List ℕ → ℕ → Option Event
next_order seating seed number =
    if is_race_pending seating || is_round_open seating then None
    else first_order (owed_break seating seed number) (owed_balance seating)
