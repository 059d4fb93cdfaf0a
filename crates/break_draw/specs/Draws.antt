-- The draw of a broken table: an order of the seats to fill and an order of its players. This project's own.
use Rattle.std.specs.Prelude.{ℕ, Bool, ◌==◌, ◌&&◌, List, length, count_by, IsPermutation, Option, None, Some, false}
use Rattle.std.specs.List.{list_all}
use Rattle.std.specs.Str.{bytes_eq}
use Rattle.seat_book.specs.declared.place.Place.{Place}
use Rattle.seat_book.specs.declared.seated.Seated.{Seated}
use Rattle.seat_book.specs.Seatings.{Seating}
use Rattle.balance_rule.specs.Filling.{is_same_place, names_at}

-- Each item of a list comes as often in another.
abbrev pub come_as_often : {A : Type 0} → (A → A → Bool) → List A → List A → Bool
come_as_often same items others =
    list_all (λ item. count_by (same item) items == count_by (same item) others) items

-- A list is another in some order: as a test, by how many items both have and how often each comes in both.
abbrev pub is_reordered : {A : Type 0} → (A → A → Bool) → List A → List A → Bool
is_reordered same items others = length items == length others && come_as_often same items others

-- A player with this name is in a slot.
abbrev pub is_named : List ℕ → Option Seated → Bool
is_named name None = false
is_named name (Some seated) = bytes_eq name seated.name

-- A right draw of a table: the seats are those of the fill list in some order, and the names those of the table's
-- players in some order.
pub record IsDraw (seating : Seating) (table : ℕ) (fill seats : List Place) (names : List (List ℕ)) : Type 0 where
  pub places : IsPermutation fill seats
  pub players : IsPermutation (names_at seating table) names

-- The same as a test.
abbrev pub is_draw : Seating → ℕ → List Place → List Place → List (List ℕ) → Bool
is_draw seating table fill seats names =
    is_reordered is_same_place fill seats && is_reordered bytes_eq names (names_at seating table)
