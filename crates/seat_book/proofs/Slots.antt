-- The slot of a place has the player who sits there.
use Rattle.std.proofs.Common.{◌≡◌, ◌∙◌, refl, sym, ap, ℕ, zero, suc, ◌+◌, ◌-◌, ◌*◌, ◌<◌, ◌≤◌, Bool, true, false, List, [], ◌∷◌, ◌++◌, length, get_or, Option, None, Some, inl, inr, arith}
use Rattle.std.specs.Prelude.{find}
use Rattle.std.specs.List.{list_all, cons_option}
use Rattle.std.proofs.lemmas.Bool.{and_parts, leb-true, eq-eqb}
use Rattle.std.proofs.lemmas.Bool.Decides.{nat_tests}
use Rattle.std.proofs.lemmas.Nat.{mul-add-lt}
use Rattle.rulebook.proofs.Tests.{find-all}
use Rattle.seat_book.specs.declared.place.Place.{Place}
use Rattle.seat_book.specs.declared.seated.Seated.{Seated}
use Rattle.seat_book.specs.Places.{comes_before, is_place_of, IsPlaceOf}
use Rattle.seat_book.specs.Players.{players_in, sits_in, is_numbered, player_at, player_of}
use Rattle.seat_book.specs.Seatings.{sits_within}
use Rattle.seat_book.specs.Kept.{slot_of, StandsIn, AllStand}
use Rattle.seat_book.proofs.PlaceOrder.{same-place}
use Rattle.seat_book.proofs.AllStand.{list_all-stand, stands-within}
use Rattle.seat_book.proofs.Splits.{front_of, back_of, players_in-split, StandsBetween, stands-between, player_at-empty, player_at-there}
use Rattle.seat_book.proofs.Numbers.{found-append}

-- the slot of a place is one that the tables have
pub slot-within : (tables seats : ℕ) (place : Place) → IsPlaceOf tables seats place
    → slot_of seats place < tables * seats
slot-within tables seats place at =
    let row : place.table - 1 < tables = let first : 1 ≤ place.table = at.table.first in let last : place.table ≤
    tables = at.table.last in omega (arith, first, last) in
    let column : place.seat - 1 < seats = let first : 1 ≤ place.seat = at.first in let last : place.seat ≤ seats =
    at.last in omega (arith, first, last) in
    let less = mul-add-lt (place.table - 1) seats (place.seat - 1) tables row column in
    omega (arith, less)

-- who is in a slot stands there
pub stands-at : (seats from slot : ℕ) (slots : List (Option Seated)) (seated : Seated) → AllStand seats from slots
    → get_or slots slot None ≡ Some seated → StandsIn seats (from + slot) seated
stands-at seats from slot [] seated stand is = absurd cc
stands-at seats from zero (None ∷ slots) seated stand is = absurd cc
stands-at seats from zero (Some first ∷ slots) seated stand is =
    let same : first ≡ seated = cc in
    let here : from ≡ from + 0 = omega arith in
    rw (← same, ← here) stand.0
stands-at seats from (suc slot) (None ∷ slots) seated stand is =
    let next : suc from + slot ≡ from + suc slot = omega arith in
    rw (← next) (stands-at seats (suc from) slot slots seated stand is)
stands-at seats from (suc slot) (Some first ∷ slots) seated stand is =
    let next : suc from + slot ≡ from + suc slot = omega arith in
    rw (← next) (stands-at seats (suc from) slot slots seated stand.1 is)

-- who stands in the slot of a place sits there
pub stands-sits : (tables seats : ℕ) (place : Place) (seated : Seated) → IsPlaceOf tables seats place
    → StandsIn seats (slot_of seats place) seated → sits_in place seated ≡ true
stands-sits tables seats place seated at stands =
    let same = same-place seats seated.place.table seated.place.seat place.table place.seat stands.table stands.first
    stands.last at.table.first at.first at.last stands.here in
    rw (eq-eqb seated.place.table place.table same.0, eq-eqb seated.place.seat place.seat same.1) refl

-- the slot of a place has the player who sits there, if one does
pub slot-has : (tables seats : ℕ) (slots : List (Option Seated)) (place : Place) → IsPlaceOf tables seats place
    → AllStand seats 0 slots → slot_of seats place < length slots
    → get_or slots (slot_of seats place) None ≡ player_at (players_in slots) place
slot-has tables seats slots place at stand within = by_slot (get_or slots (slot_of seats place) None) refl
  where
    parts : players_in slots ≡ front_of (slot_of seats place) slots ++ cons_option
        (get_or slots (slot_of seats place) None) (back_of (slot_of seats place) slots)
    parts = players_in-split (slot_of seats place) slots within

    between : StandsBetween place (front_of (slot_of seats place) slots) (back_of (slot_of seats place) slots)
    between = stands-between tables seats slots place at stand within

    by_slot : (slot : Option Seated) → get_or slots (slot_of seats place) None ≡ slot
        → slot ≡ player_at (players_in slots) place
    by_slot None is = sym (ap (λ players. player_at players place) (rw is at parts) ∙ player_at-empty place
        (front_of (slot_of seats place) slots) (back_of (slot_of seats place) slots) between)
    by_slot (Some seated) is =
        let stands : StandsIn seats (slot_of seats place) seated = let zero_more : 0 + slot_of seats place ≡ slot_of
        seats place = omega arith in rw zero_more at (stands-at seats 0 (slot_of seats place) slots seated stand
        is) in
        sym (ap (λ players. player_at players place) (rw is at parts)
        ∙ player_at-there place (front_of (slot_of seats place) slots) (back_of (slot_of seats place) slots) seated
        between (stands-sits tables seats place seated at stands))

-- everyone sits within the tables
pub all-within : (tables seats : ℕ) (slots : List (Option Seated)) → AllStand seats 0 slots
    → length slots ≡ tables * seats → list_all (sits_within tables seats) (players_in slots) ≡ true
all-within tables seats slots stand room = list_all-stand (sits_within tables seats) seats 0 (tables * seats) 0 slots
    (λ slot seated low high stands. stands-within tables seats slot seated high stands) stand (omega arith)
    (omega (arith, room))

-- what the test of a place says
pub IsPlaceOf-test : (tables seats : ℕ) (place : Place) → is_place_of tables seats place ≡ true
    → IsPlaceOf tables seats place
IsPlaceOf-test tables seats place test =
    let halves = and_parts _ _ test in
    let table = and_parts _ _ halves.0 in
    let seat = and_parts _ _ halves.1 in
    record {
      table = record { first = leb-true 1 place.table table.0; last = leb-true place.table tables table.1 };
      first = leb-true 1 place.seat seat.0;
      last = leb-true place.seat seats seat.1;
    }

no_self : (place : Place) → comes_before place place ≡ true → ⊥
no_self place before = irreflexive place.table place.seat before
  where
    irreflexive : (a b : ℕ) → comes_before (record { table = a; seat = b }) (record { table = a; seat = b }) ≡ true → ⊥
    irreflexive a b before = grind (arith, nat_tests)

-- a player who is found by his number stands in the slot of his place
pub found-slot : (number : ℕ) (front back : List Seated) (slot : Option Seated) (seated : Seated)
    → StandsBetween seated.place front back → find (is_numbered number) (front ++ cons_option slot back) ≡ Some seated
    → slot ≡ Some seated
found-slot number front back None seated between is =
    elim (found-append (is_numbered number) front back seated is) [
      | inl first ↦ absurd (no_self seated.place (find-all (is_numbered number)
          (λ other. comes_before other.place seated.place) front seated first between.before))
      | inr last ↦ absurd (no_self seated.place (find-all (is_numbered number)
          (λ other. comes_before seated.place other.place) back seated last between.after))
    ]
found-slot number front back (Some here) seated between is =
    elim (found-append (is_numbered number) front (here ∷ back) seated is) [
      | inl first ↦ absurd (no_self seated.place (find-all (is_numbered number)
          (λ other. comes_before other.place seated.place) front seated first between.before))
      | inr last ↦ by_number (is_numbered number here) refl last
    ]
  where
    by_number : (b : Bool) → is_numbered number here ≡ b → find (is_numbered number) (here ∷ back) ≡ Some seated
        → Some here ≡ Some seated
    by_number true is found = rw is at found
    by_number false is found = let last : find (is_numbered number) back ≡ Some seated = rw is at found in
        absurd (no_self seated.place (find-all (is_numbered number) (λ other. comes_before seated.place other.place)
        back seated last between.after))

-- the place of a number is one that the tables have, and its slot has the player
pub slot-numbered : (tables seats number : ℕ) (slots : List (Option Seated)) (seated : Seated)
    → AllStand seats 0 slots → length slots ≡ tables * seats → player_of (players_in slots) number ≡ Some seated
    → IsPlaceOf tables seats seated.place × (get_or slots (slot_of seats seated.place) None ≡ Some seated)
slot-numbered tables seats number slots seated stand room is =
    let at = IsPlaceOf-test tables seats seated.place (find-all (is_numbered number) (sits_within tables seats)
    (players_in slots) seated is (all-within tables seats slots stand room)) in
    let slot = slot-within tables seats seated.place at in
    let within : slot_of seats seated.place < length slots = omega (arith, slot, room) in
    let parts = players_in-split (slot_of seats seated.place) slots within in (
      at,
      found-slot number (front_of (slot_of seats seated.place) slots) (back_of (slot_of seats seated.place) slots)
          (get_or slots (slot_of seats seated.place) None) seated
          (stands-between tables seats slots seated.place at stand within)
          (ap (find (is_numbered number)) (sym parts) ∙ is),
    )
