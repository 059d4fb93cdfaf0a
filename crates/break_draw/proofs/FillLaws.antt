-- What holds of every fill list.
use Rattle.std.proofs.Common.{◌≡◌, ◌∙◌, refl, sym, ap, subst, ℕ, zero, suc, ◌+◌, ◌≤◌, ◌==◌, true, false, cond, List, [], ◌∷◌, ◌++◌, Some, inl, inr, arith}
use Rattle.std.specs.Prelude.{not, ◌&&◌, ◌||◌}
use Rattle.std.specs.List.{list_all, list_any}
use Rattle.std.proofs.Math.Bool.{or-false}
use Rattle.std.proofs.lemmas.Bool.{cases_Bool, eqb-true, and_parts, and_from}
use Rattle.std.proofs.lemmas.Bool.Decides.{nat_tests}
use Rattle.std.proofs.lemmas.List.Folds.{list_any-append}
use Rattle.rulebook.specs.Seats.{clockwise_after}
use Rattle.rulebook.specs.Pairs.{are_distinct}
use Rattle.rulebook.proofs.Among.{is_among, among-filter}
use Rattle.rulebook.proofs.Sides.{first_alone}
use Rattle.rulebook.proofs.Tests.{find-passes, not-or}
use Rattle.seat_book.specs.declared.place.Place.{Place}
use Rattle.seat_book.specs.Places.{IsTableOf}
use Rattle.seat_book.specs.Counts.{table_numbers}
use Rattle.seat_book.specs.Seatings.{Seating}
use Rattle.seat_book.proofs.Numbers.{list_all-joined}
use Rattle.balance_rule.specs.EmptySeats.{is_empty_seat}
use Rattle.balance_rule.specs.Filling.{is_other_open, other_open_tables, is_at, is_same_place, count_with, is_free, next_to_fill, filled}
use Rattle.balance_rule.proofs.Extremes.{among-tables, tables-among}
use Rattle.break_draw.proofs.Room.{lowest-among, lowest-least, filled-last, count_with-more}
use Rattle.break_draw.proofs.Chosen.{next-parts}

-- Each chosen seat is at another open table.
pub chosen-elsewhere : (seating : Seating) (table n : ℕ) (chosen : List Place) → filled seating table n ≡ Some chosen
    → list_all (λ place. is_other_open seating table place.table) chosen ≡ true
chosen-elsewhere seating table zero chosen is = let none : [] ≡ chosen = cc in
    ap (list_all (λ (place : Place). is_other_open seating table place.table)) (sym none)
chosen-elsewhere seating table (suc n) chosen is =
    let last = filled-last seating table n chosen is in
    let before = chosen-elsewhere seating table n last.0 last.1.1.0 in
    let next = next-parts seating table last.0 last.1.0 last.1.1.1 in
    let at = tables-among (is_other_open seating table) seating.table_count last.1.0.table
    (lowest-among (count_with seating.players last.0) (other_open_tables seating table) last.1.0.table next.0) in
    ap (list_all (λ (place : Place). is_other_open seating table place.table)) last.1.1.2
    ∙ list_all-joined (λ (place : Place). is_other_open seating table place.table) last.0 (last.1.0 ∷ []) before
    (and_from (is_other_open seating table last.1.0.table) true at.0 refl)

-- the next seat is empty and not chosen
next-free : (seating : Seating) (table n : ℕ) (chosen : List Place) (is : filled seating table (suc n) ≡ Some chosen)
    → is_free seating.players (filled-last seating table n chosen is).0
    (filled-last seating table n chosen is).1.0.table
    (filled-last seating table n chosen is).1.0.seat ≡ true
next-free seating table n chosen is =
    let last = filled-last seating table n chosen is in
    let next = next-parts seating table last.0 last.1.0 last.1.1.1 in
    find-passes (is_free seating.players last.0 last.1.0.table) (clockwise_after seating.seat_count seating.seat_count)
    last.1.0.seat next.1

-- Each chosen seat is empty.
pub chosen-empty : (seating : Seating) (table n : ℕ) (chosen : List Place) → filled seating table n ≡ Some chosen
    → list_all (λ place. is_empty_seat seating.players place.table place.seat) chosen ≡ true
chosen-empty seating table zero chosen is = let none : [] ≡ chosen = cc in
    ap (list_all (λ (place : Place). is_empty_seat seating.players place.table place.seat)) (sym none)
chosen-empty seating table (suc n) chosen is =
    let last = filled-last seating table n chosen is in
    let before = chosen-empty seating table n last.0 last.1.1.0 in
    let parts = and_parts (is_empty_seat seating.players last.1.0.table last.1.0.seat)
    (not (list_any (is_same_place last.1.0) last.0)) (next-free seating table n chosen is) in
    ap (list_all (λ (place : Place). is_empty_seat seating.players place.table place.seat)) last.1.1.2
    ∙ list_all-joined (λ (place : Place). is_empty_seat seating.players place.table place.seat) last.0 (last.1.0 ∷ [])
    before (and_from (is_empty_seat seating.players last.1.0.table last.1.0.seat) true parts.0 refl)

-- one more that is none of those before
distinct-ends : (places : List Place) (place : Place) → are_distinct is_same_place places ≡ true
    → not (list_any (is_same_place place) places) ≡ true → are_distinct is_same_place (places ++ place ∷ []) ≡ true
distinct-ends [] place apart new = refl
distinct-ends (first ∷ places) place apart new =
    let parts = and_parts (list_all (λ other. not (is_same_place first other)) places)
    (are_distinct is_same_place places)
    apart in
    let news = and_parts (not (is_same_place place first)) (not (list_any (is_same_place place) places))
    (sym (not-or (is_same_place place first) (list_any (is_same_place place) places)) ∙ new) in
    and_from (list_all (λ other. not (is_same_place first other)) (places ++ place ∷ []))
    (are_distinct is_same_place (places ++ place ∷ []))
    (list_all-joined (λ other. not (is_same_place first other)) places (place ∷ []) parts.0
    (and_from (not (is_same_place first place)) true
    (turned place.table place.seat first.table first.seat news.0) refl))
    (distinct-ends places place parts.1 news.1)
  where
    turned : (a b x y : ℕ) → not ((a == x) && (b == y)) ≡ true → not ((x == a) && (y == b)) ≡ true
    turned a b x y apart = grind (arith, nat_tests)

-- No seat is chosen twice.
pub chosen-apart : (seating : Seating) (table n : ℕ) (chosen : List Place) → filled seating table n ≡ Some chosen
    → are_distinct is_same_place chosen ≡ true
chosen-apart seating table zero chosen is = let none : [] ≡ chosen = cc in ap (are_distinct is_same_place) (sym none)
chosen-apart seating table (suc n) chosen is =
    let last = filled-last seating table n chosen is in
    let before = chosen-apart seating table n last.0 last.1.1.0 in
    let parts = and_parts (is_empty_seat seating.players last.1.0.table last.1.0.seat)
    (not (list_any (is_same_place last.1.0) last.0)) (next-free seating table n chosen is) in
    ap (are_distinct is_same_place) last.1.1.2 ∙ distinct-ends last.0 last.1.0 before parts.1

-- one step of the law below: either the next seat is at the one table, or that had one before
level-step : (seating : Seating) (table one other : ℕ) (fewer : List Place) (place : Place)
    → next_to_fill seating table fewer ≡ Some place → list_any (is_at one) (fewer ++ place ∷ []) ≡ true
    → is_among other (other_open_tables seating table) ≡ true
    → (list_any (is_at one) fewer ≡ true
    → count_with seating.players fewer one ≤ count_with seating.players fewer other + 1)
    → count_with seating.players (fewer ++ place ∷ []) one ≤ count_with seating.players (fewer ++ place ∷ []) other + 1
level-step seating table one other fewer place next took among before =
    let here = count_with-more seating.players fewer place one in
    let there = count_with-more seating.players fewer place other in
    let parts = next-parts seating table fewer place next in
    let least = lowest-least (count_with seating.players fewer)
    (other_open_tables seating table) place.table other parts.0
    among in
    elim (cases_Bool (place.table == one)) [
      | inl is ↦
          let added : cond {A = ℕ} (place.table == one) 1 0 ≡ 1 = ap (λ b. cond {A = ℕ} b 1 0) is in
          let same = ap (count_with seating.players fewer) (eqb-true place.table one is) in
          omega (arith, here, there, least, added, same)
      | inr not_there ↦
          let added : cond {A = ℕ} (place.table == one) 1 0 ≡ 0 = ap (λ b. cond {A = ℕ} b 1 0) not_there in
          let joined = sym (list_any-append (is_at one) fewer (place ∷ [])) ∙ took in
          let earlier = before (first_alone (list_any (is_at one) fewer) (place.table == one || false) joined
          (or-false (place.table == one) ∙ not_there)) in
          omega (arith, here, there, added, earlier)
    ]

-- No table that got a chosen seat has, with the chosen seats, two players more than another open table.
pub chosen-level : (seating : Seating) (table n one other : ℕ) (chosen : List Place)
    → filled seating table n ≡ Some chosen
    → list_any (is_at one) chosen ≡ true → is_among other (other_open_tables seating table) ≡ true
    → count_with seating.players chosen one ≤ count_with seating.players chosen other + 1
chosen-level seating table zero one other chosen is took among =
    let none : [] ≡ chosen = cc in
    let nobody : false ≡ true = ap (list_any (is_at one)) none ∙ took in
    absurd cc
chosen-level seating table (suc n) one other chosen is took among =
    let last = filled-last seating table n chosen is in
    let step = level-step seating table one other last.0 last.1.0 last.1.1.1
    (ap (list_any (is_at one)) (sym last.1.1.2) ∙ took) among
    (λ earlier. chosen-level seating table n one other last.0 last.1.1.0 earlier among) in
    subst (λ (chosen : List Place). count_with seating.players chosen one ≤ count_with seating.players chosen other + 1)
    (sym last.1.1.2) step

-- The same of any table that is open and another than the broken one.
pub chosen-level-open : (seating : Seating) (table n one other : ℕ) (chosen : List Place)
    → filled seating table n ≡ Some chosen → list_any (is_at one) chosen ≡ true → IsTableOf seating.table_count other
    → is_other_open seating table other ≡ true
    → count_with seating.players chosen one ≤ count_with seating.players chosen other + 1
chosen-level-open seating table n one other chosen is took number opened =
    chosen-level seating table n one other chosen is took (among-filter (is_other_open seating table) other
    (table_numbers seating.table_count) opened (among-tables seating.table_count other number))
