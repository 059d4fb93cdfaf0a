-- What holds of the seats that are chosen.
use Rattle.std.proofs.Common.{◌≡◌, ◌∙◌, refl, sym, ap, subst, ℕ, zero, suc, ◌≤◌, Bool, true, List, [], ◌∷◌, Option, None, Some, arith}
use Rattle.std.specs.List.{list_all}
use Rattle.std.proofs.lemmas.Bool.{and_from}
use Rattle.std.proofs.lemmas.Bool.Decides.{nat_tests}
use Rattle.rulebook.proofs.OccupiedSeats.{found-within}
use Rattle.seat_book.specs.declared.place.Place.{Place}
use Rattle.seat_book.specs.Places.{is_place_of}
use Rattle.seat_book.specs.Seatings.{Seating}
use Rattle.seat_book.proofs.Numbers.{list_all-joined}
use Rattle.balance_rule.specs.EmptySeats.{lowest_seat}
use Rattle.balance_rule.specs.Filling.{is_other_open, other_open_tables, count_with, lowest_table, is_free, place_at, seat_there, next_to_fill, filled}
use Rattle.balance_rule.proofs.Extremes.{tables-among}
use Rattle.break_draw.proofs.Room.{lowest-among, filled-last}

-- The lowest seat that passes a test is one of the table's.
pub lowest-within : (test : ℕ → Bool) (seats found : ℕ) → lowest_seat seats test ≡ Some found
    → (1 ≤ found) × (found ≤ seats)
lowest-within test zero found is = absurd cc
lowest-within test (suc seats) found is =
    found-within test (suc seats) (suc seats) (suc seats) found (omega arith) is

-- The parts of the next seat to fill.
pub next-parts : (seating : Seating) (table : ℕ) (chosen : List Place) (place : Place)
    → next_to_fill seating table chosen ≡ Some place
    → (lowest_table (count_with seating.players chosen) (other_open_tables seating table) ≡ Some place.table)
    × (lowest_seat seating.seat_count (is_free seating.players chosen place.table) ≡ Some place.seat)
next-parts seating table chosen place is =
    by_table (lowest_table (count_with seating.players chosen) (other_open_tables seating table)) refl is
  where
    by_seat : (at : ℕ) (seat : Option ℕ) → lowest_seat seating.seat_count (is_free seating.players chosen at) ≡ seat
        → place_at at seat ≡ Some place → (at ≡ place.table)
        × (lowest_seat seating.seat_count (is_free seating.players chosen place.table) ≡ Some place.seat)
    by_seat at None seat_is there = absurd cc
    by_seat at (Some seat) seat_is there =
        let here : Place = record { table = at; seat = seat } in
        let same : here ≡ place = cc in
        let table_same : at ≡ place.table = ap (λ (place : Place). place.table) same in
        let seat_same : seat ≡ place.seat = ap (λ (place : Place). place.seat) same in (
          table_same,
          subst (λ (n : ℕ). lowest_seat seating.seat_count (is_free seating.players chosen n) ≡ Some place.seat)
              table_same (seat_is ∙ ap Some seat_same),
        )

    by_table : (found : Option ℕ)
        → lowest_table (count_with seating.players chosen) (other_open_tables seating table) ≡ found
        → seat_there seating chosen found ≡ Some place
        → (lowest_table (count_with seating.players chosen) (other_open_tables seating table) ≡ Some place.table)
        × (lowest_seat seating.seat_count (is_free seating.players chosen place.table) ≡ Some place.seat)
    by_table None found_is there = absurd cc
    by_table (Some at) found_is there =
        let rest = by_seat at (lowest_seat seating.seat_count (is_free seating.players chosen at)) refl there in
        (found_is ∙ ap Some rest.0, rest.1)

-- A seat of one of the tables is a place that the tables have.
pub place-within : (tables seats at seat : ℕ) → 1 ≤ at → at ≤ tables → 1 ≤ seat → seat ≤ seats
    → is_place_of tables seats (record { table = at; seat = seat }) ≡ true
place-within tables seats at seat first last low high = grind (arith, nat_tests)

-- Each chosen seat is a place that the tables have.
pub chosen-places : (seating : Seating) (table n : ℕ) (chosen : List Place) → filled seating table n ≡ Some chosen
    → list_all (is_place_of seating.table_count seating.seat_count) chosen ≡ true
chosen-places seating table zero chosen is = let none : [] ≡ chosen = cc in
    ap (list_all (is_place_of seating.table_count seating.seat_count)) (sym none)
chosen-places seating table (suc n) chosen is =
    let last = filled-last seating table n chosen is in
    let before = chosen-places seating table n last.0 last.1.1.0 in
    let next = next-parts seating table last.0 last.1.0 last.1.1.1 in
    let at = tables-among (is_other_open seating table) seating.table_count last.1.0.table
    (lowest-among (count_with seating.players last.0) (other_open_tables seating table) last.1.0.table next.0) in
    let seat = lowest-within (is_free seating.players last.0 last.1.0.table) seating.seat_count last.1.0.seat next.1 in
    let here = place-within seating.table_count seating.seat_count last.1.0.table last.1.0.seat at.1.first at.1.last
    seat.0 seat.1 in
    ap (list_all (is_place_of seating.table_count seating.seat_count)) last.1.1.2
    ∙ list_all-joined (is_place_of seating.table_count seating.seat_count) last.0 (last.1.0 ∷ []) before
    (and_from (is_place_of seating.table_count seating.seat_count last.1.0) true here refl)
