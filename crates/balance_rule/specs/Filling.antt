-- Which seats are filled when a table breaks. This project's own.
use Rattle.std.specs.Prelude.{◌≡◌, ◌<◌, ◌≤◌, ℕ, zero, suc, ◌+◌, ◌-◌, Bool, true, false, not, ◌==◌, ◌&&◌, nat_lt, if◌then◌else◌, List, [], ◌∷◌, ◌++◌, map, filter, fold, count_by, sum, Option, Some, None}
use Rattle.std.specs.List.{list_any}
use Rattle.seat_book.specs.declared.place.Place.{Place}
use Rattle.seat_book.specs.declared.seated.Seated.{Seated}
use Rattle.seat_book.specs.Places.{IsTableOf, IsPlaceOf}
use Rattle.seat_book.specs.Players.{players_at}
use Rattle.seat_book.specs.Counts.{count_at, is_open, table_numbers}
use Rattle.seat_book.specs.Seatings.{Seating}
use Rattle.balance_rule.specs.EmptySeats.{is_empty_seat, lowest_seat}

-- A table is open and another than this one.
abbrev pub is_other_open : Seating → ℕ → ℕ → Bool
is_other_open seating table other = is_open seating.players other && not (other == table)

-- The open tables other than this one, by number.
abbrev pub other_open_tables : Seating → ℕ → List ℕ
other_open_tables seating table = filter (is_other_open seating table) (table_numbers seating.table_count)

-- How many empty seats the other open tables have.
abbrev pub empty_elsewhere : Seating → ℕ → ℕ
empty_elsewhere seating table =
    sum (map (λ other. seating.seat_count - count_at seating.players other) (other_open_tables seating table))

-- The other open tables have fewer empty seats than the table has players.
abbrev pub lacks_room : Seating → ℕ → Bool
lacks_room seating table = nat_lt (empty_elsewhere seating table) (count_at seating.players table)

-- A place is at a table.
abbrev pub is_at : ℕ → Place → Bool
is_at table place = place.table == table

-- Two places are one.
abbrev pub is_same_place : Place → Place → Bool
is_same_place place other = place.table == other.table && place.seat == other.seat

-- The count of a table, with the seats that are chosen so far.
abbrev pub count_with : List Seated → List Place → ℕ → ℕ
count_with players chosen table = count_at players table + count_by (is_at table) chosen

-- Of two tables the one with the lower count, and the first where they have the same; the other where there is but one.
abbrev pub lower_of : (ℕ → ℕ) → Option ℕ → ℕ → Option ℕ
lower_of count None other = Some other
lower_of count (Some table) other = Some (if nat_lt (count other) (count table) then other else table)

-- The table with the lowest count of a list, the first such, if there is one.
abbrev pub lowest_table : (ℕ → ℕ) → List ℕ → Option ℕ
lowest_table count tables = fold (lower_of count) None tables

-- A seat is empty and not chosen.
abbrev pub is_free : List Seated → List Place → ℕ → ℕ → Bool
is_free players chosen table seat =
    is_empty_seat players table seat && not (list_any (is_same_place (record { table = table; seat = seat })) chosen)

-- A place at a table, where there is a seat.
abbrev pub place_at : ℕ → Option ℕ → Option Place
place_at table None = None
place_at table (Some seat) = Some (record { table = table; seat = seat })

-- The place with the lowest seat of a table that is empty and not chosen, if there is a table and it has one.
abbrev pub seat_there : Seating → List Place → Option ℕ → Option Place
seat_there seating chosen None = None
seat_there seating chosen (Some table) =
    place_at table (lowest_seat seating.seat_count (is_free seating.players chosen table))

-- The next seat to fill when a table breaks: at the other open table with the lowest count, counting the seats that
-- are chosen so far, of more such tables at that with the lowest number; there the lowest empty seat that is not
-- chosen.
abbrev pub next_to_fill : Seating → ℕ → List Place → Option Place
next_to_fill seating table chosen =
    seat_there seating chosen
    (lowest_table (count_with seating.players chosen) (other_open_tables seating table))

-- The seat that is filled next, by what tells it from all others.
pub record IsNextSeat (seating : Seating) (table : ℕ) (chosen : List Place) (place : Place) : Type 0 where
  -- it is one of the tables' places, at another open table
  pub within : IsPlaceOf seating.table_count seating.seat_count place
  pub elsewhere : is_other_open seating table place.table ≡ true
  -- it is empty and not chosen
  pub free : is_free seating.players chosen place.table place.seat ≡ true
  -- no other open table has fewer players, counting the seats that are chosen so far
  pub fewest : (other : ℕ) → IsTableOf seating.table_count other → is_other_open seating table other ≡ true
      → count_with seating.players chosen place.table ≤ count_with seating.players chosen other
  -- each of them with a lower number has more
  pub first : (other : ℕ) → IsTableOf seating.table_count other → is_other_open seating table other ≡ true
      → other < place.table
      → count_with seating.players chosen place.table < count_with seating.players chosen other
  -- and each lower seat of its table is taken or chosen
  pub lowest : (seat : ℕ) → 1 ≤ seat → seat < place.seat → is_free seating.players chosen place.table seat ≡ false

-- The chosen seats with one more, where there is one.
abbrev pub with_one : List Place → Option Place → Option (List Place)
with_one chosen None = None
with_one chosen (Some place) = Some (chosen ++ place ∷ [])

-- One more seat to fill than those that are chosen.
abbrev pub one_more : Seating → ℕ → Option (List Place) → Option (List Place)
one_more seating table None = None
one_more seating table (Some chosen) = with_one chosen (next_to_fill seating table chosen)

-- So many seats to fill, chosen one at a time, if there are as many.
abbrev pub filled : Seating → ℕ → ℕ → Option (List Place)
filled seating table zero = Some []
filled seating table (suc fewer) = one_more seating table (filled seating table fewer)

-- The fill list of a table: as many seats as it has players.
abbrev pub fill_seats : Seating → ℕ → Option (List Place)
fill_seats seating table = filled seating table (count_at seating.players table)

-- The names of a table's players, in rising seat.
abbrev pub names_at : Seating → ℕ → List (List ℕ)
names_at seating table = map (λ seated. seated.name) (players_at seating.players table)
