-- Slots in which everyone stands.
use Rattle.std.proofs.Common.{◌≡◌, ◌∙◌, refl, subst, ℕ, zero, suc, ◌+◌, ◌-◌, ◌*◌, ◌<◌, ◌≤◌, Bool, true, List, [], ◌∷◌, ◌++◌, length, take, drop, replicate, Option, None, Some, inl, inr, arith}
use Rattle.std.specs.List.{list_all}
use Rattle.std.proofs.lemmas.Bool.{and_from, cases_lt, le-leb}
use Rattle.std.proofs.lemmas.Nat.{mul-le}
use Rattle.std.proofs.lemmas.List.Folds.{list_all-map}
use Rattle.seat_book.specs.declared.place.Place.{Place}
use Rattle.seat_book.specs.declared.seated.Seated.{Seated}
use Rattle.seat_book.specs.Places.{comes_before, are_rising, IsPlaceOf}
use Rattle.seat_book.specs.Players.{players_in, places_of, are_in_order}
use Rattle.seat_book.specs.Seatings.{sits_within}
use Rattle.seat_book.specs.Kept.{slot_of, StandsIn, AllStand}
use Rattle.seat_book.proofs.PlaceOrder.{lesser-before}

-- slots that begin at the same number
pub stand-moved : (seats a b : ℕ) (slots : List (Option Seated)) → a ≡ b → AllStand seats a slots
    → AllStand seats b slots
stand-moved seats a b slots same stand = subst (λ (n : ℕ). AllStand seats n slots) same stand

-- the front of the slots
pub stand-take : (seats from k : ℕ) (slots : List (Option Seated)) → AllStand seats from slots
    → AllStand seats from (take k slots)
stand-take seats from zero slots stand = tt
stand-take seats from (suc k) [] stand = tt
stand-take seats from (suc k) (None ∷ slots) stand = stand-take seats (suc from) k slots stand
stand-take seats from (suc k) (Some other ∷ slots) stand = (stand.0, stand-take seats (suc from) k slots stand.1)

-- the rest of the slots
pub stand-drop : (seats from k : ℕ) (slots : List (Option Seated)) → AllStand seats from slots
    → AllStand seats (from + k) (drop k slots)
stand-drop seats from zero slots stand = stand-moved seats from (from + 0) slots (omega arith) stand
stand-drop seats from (suc k) [] stand = tt
stand-drop seats from (suc k) (None ∷ slots) stand = stand-moved seats (suc from + k) (from + suc k) (drop k slots)
    (omega arith) (stand-drop seats (suc from) k slots stand)
stand-drop seats from (suc k) (Some other ∷ slots) stand = stand-moved seats (suc from + k) (from + suc k)
    (drop k slots) (omega arith) (stand-drop seats (suc from) k slots stand.1)

-- slots one after another
pub stand-append : (seats from : ℕ) (front back : List (Option Seated)) → AllStand seats from front
    → AllStand seats (from + length front) back → AllStand seats from (front ++ back)
stand-append seats from [] back front_stand stand = stand-moved seats (from + 0) from back (omega arith) stand
stand-append seats from (None ∷ front) back front_stand stand =
    stand-append seats (suc from) front back front_stand (stand-moved seats (from + suc (length front))
    (suc from + length front) back (omega arith) stand)
stand-append seats from (Some other ∷ front) back front_stand stand = (
  front_stand.0,
  stand-append seats (suc from) front back front_stand.1
      (stand-moved seats (from + suc (length front)) (suc from + length front) back (omega arith) stand),
)

-- empty slots
pub stand-empty : (seats from count : ℕ) → AllStand seats from (replicate count None)
stand-empty seats from zero = tt
stand-empty seats from (suc count) = stand-empty seats (suc from) count

-- what holds of everyone who stands in a slot from one number up to another holds of all players there
pub list_all-stand : (test : Seated → Bool) (seats low high from : ℕ) (slots : List (Option Seated))
    → ((slot : ℕ) (seated : Seated) → low ≤ slot → slot < high → StandsIn seats slot seated → test seated ≡ true)
    → AllStand seats from slots → low ≤ from → from + length slots ≤ high → list_all test (players_in slots) ≡ true
list_all-stand test seats low high from [] holds stand first last = refl
list_all-stand test seats low high from (None ∷ slots) holds stand first last = list_all-stand test seats low high
    (suc from) slots holds stand (omega arith) (omega arith)
list_all-stand test seats low high from (Some seated ∷ slots) holds stand first last =
    and_from (test seated) (list_all test (players_in slots)) (holds from seated first (omega arith) stand.0)
    (list_all-stand test seats low high (suc from) slots holds stand.1 (omega arith) (omega arith))

-- who stands in a slot before that of a place comes before it
pub stands-before : (tables seats slot : ℕ) (place : Place) (other : Seated) → IsPlaceOf tables seats place
    → slot < slot_of seats place → StandsIn seats slot other → comes_before other.place place ≡ true
stands-before tables seats slot place other at less stands =
    let here : slot_of seats other.place ≡ slot = stands.here in
    let before : slot_of seats other.place < slot_of seats place = omega (arith, here, less) in
    lesser-before seats other.place.table other.place.seat place.table place.seat stands.table stands.first
    stands.last at.table.first at.first at.last before

-- who stands in a slot after that of a place comes after it
pub stands-after : (tables seats slot : ℕ) (place : Place) (other : Seated) → IsPlaceOf tables seats place
    → slot_of seats place < slot → StandsIn seats slot other → comes_before place other.place ≡ true
stands-after tables seats slot place other at less stands =
    let here : slot_of seats other.place ≡ slot = stands.here in
    let after : slot_of seats place < slot_of seats other.place = omega (arith, here, less) in
    lesser-before seats place.table place.seat other.place.table other.place.seat at.table.first at.first at.last
    stands.table stands.first stands.last after

-- the players in slots are in order
pub stand-ordered : (seats from : ℕ) (slots : List (Option Seated)) → AllStand seats from slots
    → are_in_order (players_in slots) ≡ true
stand-ordered seats from [] stand = refl
stand-ordered seats from (None ∷ slots) stand = stand-ordered seats (suc from) slots stand
stand-ordered seats from (Some seated ∷ slots) stand =
    and_from (list_all (comes_before seated.place) (places_of (players_in slots)))
    (are_rising (places_of (players_in slots)))
    (list_all-map (comes_before seated.place) (λ (other : Seated). other.place) (players_in slots)
    ∙ list_all-stand (λ (other : Seated). comes_before seated.place other.place) seats (suc from)
    (suc from + length slots) (suc from) slots
    (λ slot other low high stands. later slot other low stands)
    stand.1 (omega arith) (omega arith))
    (stand-ordered seats (suc from) slots stand.1)
  where
    at : IsPlaceOf seated.place.table seats seated.place
    at = record {
      table = record { first = stand.0.table; last = omega arith };
      first = stand.0.first;
      last =
          stand.0.last;
    }

    later : (slot : ℕ) (other : Seated) → suc from ≤ slot → StandsIn seats slot other
        → comes_before seated.place other.place ≡ true
    later slot other low stands = let here : slot_of seats seated.place ≡ from = stand.0.here in stands-after
        seated.place.table seats slot seated.place other at (omega (arith, here, low)) stands

-- who stands in a slot that the tables have sits within the tables
pub stands-within : (tables seats slot : ℕ) (seated : Seated) → slot < tables * seats → StandsIn seats slot seated
    → sits_within tables seats seated ≡ true
stands-within tables seats slot seated less stands =
    elim (cases_lt tables seated.place.table) [
      | inl beyond ↦
          let rows : tables * seats ≤ (seated.place.table - 1) * seats = mul-le tables seats (seated.place.table - 1)
          seats (omega arith) (omega arith) in
          let here : slot_of seats seated.place ≡ slot = stands.here in
          absurd (omega (arith, rows, here, less))
      | inr within ↦ rw (
        le-leb 1 seated.place.table stands.table,
        le-leb seated.place.table tables within,
        le-leb 1
            seated.place.seat stands.first,
        le-leb seated.place.seat seats stands.last,
      ) refl
    ]

-- the table of a slot is that of its row
pub stands-table : (seats slot table : ℕ) (seated : Seated) → 1 ≤ table → (table - 1) * seats ≤ slot
    → slot < (table - 1) * seats + seats → StandsIn seats slot seated → seated.place.table ≡ table
stands-table seats slot table seated first low high stands =
    let here : slot_of seats seated.place ≡ slot = stands.here in
    elim (cases_lt seated.place.table table) [
      | inl below ↦
          let rows : suc (seated.place.table - 1) * seats ≤ (table - 1) * seats = mul-le
          (suc (seated.place.table - 1)) seats (table - 1) seats (omega arith) (omega arith) in
          let one : suc (seated.place.table - 1) * seats ≡ (seated.place.table - 1) * seats + seats = omega arith in
          let seat : seated.place.seat ≤ seats = stands.last in
          let seat_first : 1 ≤ seated.place.seat = stands.first in
          absurd (omega (arith, rows, one, here, low))
      | inr up ↦ elim (cases_lt table seated.place.table) [
        | inl above ↦
            let rows : suc (table - 1) * seats ≤ (seated.place.table - 1) * seats = mul-le (suc (table - 1)) seats
            (seated.place.table - 1) seats (omega arith) (omega arith) in
            let one : suc (table - 1) * seats ≡ (table - 1) * seats + seats = omega arith in
            absurd (omega (arith, rows, one, here, high))
        | inr down ↦ omega arith
      ]
    ]
