-- How a seat book keeps its seating: a slot for each place of the tables, in order. This project's own.
use Rattle.std.specs.Prelude.{◌≡◌, ◌≤◌, ◌<◌, ◌+◌, ◌-◌, ◌*◌, ℕ, suc, true, List, [], ◌∷◌, length, slice_index_or, Option, None, Some}
use Rattle.std.specs.List.{list_all}
use Rattle.rulebook.specs.Limits.{most_entries}
use Rattle.seat_book.specs.declared.place.Place.{Place}
use Rattle.seat_book.specs.declared.seated.Seated.{Seated}
use Rattle.seat_book.specs.declared.table_status.TableStatus.{TableStatus}
use Rattle.seat_book.specs.Places.{IsTableOf}
use Rattle.seat_book.specs.Players.{players_in, place_of, are_apart}
use Rattle.seat_book.specs.Counts.{count_at}
use Rattle.seat_book.specs.Tables.{status_at, IsStatusOf}
use Rattle.seat_book.specs.Seatings.{is_entry}

-- Where the slot of a place is, at tables of so many seats.
abbrev pub slot_of : ℕ → Place → ℕ
slot_of seats place = (place.table - 1) * seats + (place.seat - 1)

-- A player sits in the place of a slot.
pub record StandsIn (seats slot : ℕ) (seated : Seated) : Type 0 where
  pub table : 1 ≤ seated.place.table
  pub first : 1 ≤ seated.place.seat
  pub last : seated.place.seat ≤ seats
  pub here : slot_of seats seated.place ≡ slot

-- Each player of a list of slots sits in the place of his slot, where the first slot has this number.
abbrev pub AllStand : ℕ → ℕ → List (Option Seated) → Type 0
AllStand seats from [] = Unit {0}
AllStand seats from (None ∷ slots) = AllStand seats (suc from) slots
AllStand seats from (Some seated ∷ slots) = StandsIn seats from seated × AllStand seats (suc from) slots

-- What holds of a seat book's fields.
pub record IsKept (tables seats : ℕ) (slots : List (Option Seated)) (places : List (Option Place)) (counts : List ℕ)
    (statuses : List TableStatus) : Type 0 where
  pub some_tables : 1 ≤ tables
  pub most_tables : tables ≤ 64
  pub some_seats : 2 ≤ seats
  pub most_seats : seats ≤ 10
  -- there is a slot for each place, and everyone sits in that of his slot
  pub room : length slots ≡ tables * seats
  pub stand : AllStand seats 0 slots
  -- the players' numbers are those of entries, and no two have one number
  pub entries : list_all is_entry (players_in slots) ≡ true
  pub apart : are_apart (players_in slots) ≡ true
  -- the place of each number is kept
  pub numbers : length places ≡ most_entries
  pub found : (number : ℕ) → number < most_entries
      → slice_index_or places number None ≡ place_of (players_in slots) number
  -- the count of each table is kept
  pub counted : length counts ≡ tables
  pub full : (table : ℕ) → IsTableOf tables table
      → slice_index_or counts (table - 1) 0 ≡ count_at (players_in slots) table
  -- each table stands somehow
  pub standing : length statuses ≡ tables
  pub lawful : (table : ℕ) → IsStatusOf seats (status_at statuses table)
