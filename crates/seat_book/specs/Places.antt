-- Places: a table and a seat there, both numbered from 1. This project's own.
use Rattle.std.specs.Prelude.{ℕ, ◌≤◌, Bool, true, ◌==◌, ◌&&◌, ◌||◌, nat_lt, nat_le, List, [], ◌∷◌}
use Rattle.std.specs.List.{list_all}
use Rattle.seat_book.specs.declared.place.Place.{Place}

-- The number of a table is one from 1 to the number of tables.
pub record IsTableOf (tables table : ℕ) : Type 0 where
  pub first : 1 ≤ table
  pub last : table ≤ tables

-- A place is one of so many seats at one of so many tables.
pub record IsPlaceOf (tables seats : ℕ) (place : Place) : Type 0 where
  pub table : IsTableOf tables place.table
  pub first : 1 ≤ place.seat
  pub last : place.seat ≤ seats

-- The same as a test.
abbrev pub is_place_of : ℕ → ℕ → Place → Bool
is_place_of tables seats place =
    (nat_le 1 place.table && nat_le place.table tables) && (nat_le 1 place.seat && nat_le place.seat seats)

-- The order of places is by table, and at one table by seat.
abbrev pub comes_before : Place → Place → Bool
comes_before first second =
    nat_lt first.table second.table || (first.table == second.table && nat_lt first.seat second.seat)

-- Each place of a list comes before every later one, so no place comes twice.
abbrev pub are_rising : List Place → Bool
are_rising [] = true
are_rising (place ∷ places) = list_all (comes_before place) places && are_rising places
