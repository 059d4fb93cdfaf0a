-- The seat that is filled next, found by its fold and its walk, is the one that the law tells from all others.
use Rattle.std.proofs.Common.{◌≡◌, ◌≢◌, ◌∙◌, refl, sym, ap, ℕ, zero, suc, ◌+◌, ◌<◌, ◌≤◌, Bool, true, false, cond, List, [], ◌∷◌, ◌++◌, Option, None, Some, inl, inr, arith}
use Rattle.std.specs.Prelude.{filter, find, fold, nat_lt, ◌⊎◌}
use Rattle.std.proofs.lemmas.Bool.{cases_eq, cases_lt, ltb-true, ltb-false}
use Rattle.rulebook.specs.Seats.{seat_after, walk, clockwise_after}
use Rattle.rulebook.proofs.Among.{among-filter}
use Rattle.rulebook.proofs.OccupiedSeats.{seat_after-below, seat_after-last}
use Rattle.rulebook.proofs.Tests.{find-passes}
use Rattle.seat_book.specs.declared.place.Place.{Place}
use Rattle.seat_book.specs.Counts.{table_numbers}
use Rattle.seat_book.specs.Seatings.{Seating}
use Rattle.balance_rule.specs.EmptySeats.{lowest_seat}
use Rattle.balance_rule.specs.Filling.{is_other_open, other_open_tables, count_with, lower_of, is_free, place_at, seat_there, next_to_fill, filled, IsNextSeat}
use Rattle.balance_rule.proofs.Extremes.{among-tables, tables-among}
use Rattle.break_draw.proofs.Room.{lowest-among, lowest-least, lowest-there, filled-last}
use Rattle.break_draw.proofs.Chosen.{lowest-within, next-parts}

-- what a walk by number finds has none before it that passes
found-first : (test : ℕ → Bool) (steps from found other : ℕ) → find test (walk suc steps from) ≡ Some found
    → from < other → other < found → test other ≡ false
found-first test zero from found other is above before = absurd cc
found-first test (suc steps) from found other is above before =
    by_test (test (suc from)) refl is (found-first test steps (suc from) found other)
  where
    by_test : (b : Bool) → test (suc from) ≡ b
        → cond b (Some (suc from)) (find test (walk suc steps (suc from))) ≡ Some found
        → (find test (walk suc steps (suc from)) ≡ Some found → suc from < other → other < found → test other ≡ false)
        → test other ≡ false
    by_test true passes is later = let same : suc from ≡ found = cc in absurd (omega (arith, same, above, before))
    by_test false fails is later = elim (cases_eq (suc from) other) [
      | inl here ↦ ap test (sym here) ∙ fails
      | inr apart ↦ later is (omega (arith, above, apart)) before
    ]

-- and the first number of a walk that passes is found
first-found : (test : ℕ → Bool) (steps from found : ℕ) → test found ≡ true → from < found → found ≤ from + steps
    → ((other : ℕ) → from < other → other < found → test other ≡ false) → find test (walk suc steps from) ≡ Some found
first-found test zero from found passes above within before = absurd (omega (arith, above, within))
first-found test (suc steps) from found passes above within before = elim (cases_eq (suc from) found) [
  | inl here ↦
      let now : test (suc from) ≡ true = ap test here ∙ passes in
      ap (λ b. cond b (Some (suc from)) (find test (walk suc steps (suc from)))) now ∙ ap Some here
  | inr apart ↦
      let fails = before (suc from) (omega arith) (omega (arith, above, apart)) in
      ap (λ b. cond b (Some (suc from)) (find test (walk suc steps (suc from)))) fails
      ∙ first-found test steps (suc from) found passes (omega (arith, above, apart)) (omega (arith, within))
      (λ other over under. before other (omega (arith, over)) under)
]

-- below the last seat, a walk round a table goes by number
walk-up : (seats steps from : ℕ) → from + steps ≤ seats → walk (seat_after seats) steps from ≡ walk suc steps from
walk-up seats zero from within = refl
walk-up seats (suc steps) from within =
    let next : seat_after seats from ≡ suc from = seat_after-below seats from (omega (arith, within)) ∙ omega arith in
    ap (λ (n : ℕ). n ∷ walk (seat_after seats) steps n) next
    ∙ ap (λ rest. suc from ∷ rest) (walk-up seats steps (suc from) (omega (arith, within)))

-- from the last seat a walk round a table has all its seats by number
walk-all : (seats : ℕ) → clockwise_after seats seats ≡ walk suc seats 0
walk-all zero = refl
walk-all (suc seats) =
    ap (λ (n : ℕ). n ∷ walk (seat_after (suc seats)) seats n) (seat_after-last (suc seats) (suc seats) refl)
    ∙ ap (λ rest. 1 ∷ rest) (walk-up (suc seats) seats 1 (omega arith))

-- what a fold over tables keeps of one that it began with: that is the table found, or has more
kept-lowest : (count : ℕ → ℕ) (tables : List ℕ) (table lowest : ℕ)
    → fold (lower_of count) (Some table) tables ≡ Some lowest → (table ≡ lowest) ⊎ (count lowest < count table)
kept-lowest count [] table lowest is = inl cc
kept-lowest count (other ∷ tables) table lowest is =
    by_test (nat_lt (count other) (count table)) refl is (kept-lowest count tables other lowest)
    (kept-lowest count tables table lowest)
  where
    by_test : (b : Bool) → nat_lt (count other) (count table) ≡ b
        → fold (lower_of count) (Some (cond b other table)) tables ≡ Some lowest
        → (fold (lower_of count) (Some other) tables ≡ Some lowest → (other ≡ lowest) ⊎ (count lowest < count other))
        → (fold (lower_of count) (Some table) tables ≡ Some lowest → (table ≡ lowest) ⊎ (count lowest < count table))
        → (table ≡ lowest) ⊎ (count lowest < count table)
    by_test true test is of_other of_table =
        let less = ltb-true (count other) (count table) test in
        inr (elim (of_other is) [
          | inl same ↦ let counts = ap count same in omega (arith, counts, less)
          | inr more ↦ omega (arith, more, less)
        ])
    by_test false test is of_other of_table = of_table is

-- the lower of two tables is one of them
lower-within : (count : ℕ → ℕ) (before : Option ℕ) (from table : ℕ) → ((table : ℕ) → before ≡ Some table → table ≤ from)
    → lower_of count before (suc from) ≡ Some table → table ≤ suc from
lower-within count None from table within is = let same : suc from ≡ table = cc in omega (arith, same)
lower-within count (Some one) from table within is =
    by_test (nat_lt (count (suc from)) (count one)) is
  where
    by_test : (b : Bool) → Some (cond b (suc from) one) ≡ Some table → table ≤ suc from
    by_test true is = let same : suc from ≡ table = cc in omega (arith, same)
    by_test false is = let same : one ≡ table = cc in let few = within one refl in omega (arith, same, few)

-- a table that comes after those before it, and before the one with the lowest count, has more
passed-more : (count : ℕ → ℕ) (tables : List ℕ) (before : Option ℕ) (other lowest : ℕ)
    → ((table : ℕ) → before ≡ Some table → table < other)
    → fold (lower_of count) (lower_of count before other) tables ≡ Some lowest → other < lowest
    → count lowest < count other
passed-more count tables None other lowest within is lower = elim (kept-lowest count tables other lowest is) [
  | inl same ↦ absurd (omega (arith, same, lower))
  | inr more ↦ more
]
passed-more count tables (Some one) other lowest within is lower =
    by_test (nat_lt (count other) (count one)) refl is
  where
    by_test : (b : Bool) → nat_lt (count other) (count one) ≡ b
        → fold (lower_of count) (Some (cond b other one)) tables ≡ Some lowest → count lowest < count other
    by_test true test is = elim (kept-lowest count tables other lowest is) [
      | inl same ↦ absurd (omega (arith, same, lower))
      | inr more ↦ more
    ]
    by_test false test is =
        let most = ltb-false (count other) (count one) test in
        elim (kept-lowest count tables one lowest is) [
          | inl same ↦ let few = within one refl in absurd (omega (arith, same, few, lower))
          | inr more ↦ omega (arith, more, most)
        ]

-- each table of a walk by number that comes before the one with the lowest count has more
lower-more : (count : ℕ → ℕ) (test : ℕ → Bool) (steps from : ℕ) (before : Option ℕ) (lowest other : ℕ)
    → ((table : ℕ) → before ≡ Some table → table ≤ from)
    → fold (lower_of count) before (filter test (walk suc steps from)) ≡ Some lowest → test other ≡ true
    → from < other → other ≤ from + steps → other < lowest → count lowest < count other
lower-more count test zero from before lowest other below is passes above within lower =
    absurd (omega (arith, above, within))
lower-more count test (suc steps) from before lowest other below is passes above within lower =
    by_test (test (suc from)) refl (cases_eq (suc from) other) is
    (λ before below is over. lower-more count test steps (suc from) before lowest other below is passes over
    (omega (arith, within)) lower)
  where
    by_test : (b : Bool) → test (suc from) ≡ b → (suc from ≡ other) ⊎ (suc from ≢ other)
        → fold (lower_of count) before (cond b (suc from ∷ filter test (walk suc steps (suc from)))
        (filter test (walk suc steps (suc from)))) ≡ Some lowest
        → ((before : Option ℕ) → ((table : ℕ) → before ≡ Some table → table ≤ suc from)
        → fold (lower_of count) before (filter test (walk suc steps (suc from))) ≡ Some lowest → suc from < other
        → count lowest < count other)
        → count lowest < count other
    by_test true test_is (inl here) is later =
        let less : count lowest < count (suc from) = passed-more count (filter test (walk suc steps (suc from))) before
        (suc from) lowest (λ table was. let few = below table was in omega (arith, few)) is
        (omega (arith, here, lower)) in
        let counts = ap count here in
        omega (arith, less, counts)
    by_test true test_is (inr apart) is later =
        later (lower_of count before (suc from)) (λ table. lower-within count before from table below) is
        (omega (arith, above, apart))
    by_test false test_is (inl here) is later =
        let fails : test other ≡ false = ap test (sym here) ∙ test_is in
        absurd cc
    by_test false test_is (inr apart) is later =
        later before (λ table was. let few = below table was in omega (arith, few)) is (omega (arith, above, apart))

-- The next seat to fill is the one that the law tells from all others.
pub next-is : (seating : Seating) (table : ℕ) (chosen : List Place) (place : Place)
    → next_to_fill seating table chosen ≡ Some place → IsNextSeat seating table chosen place
next-is seating table chosen place is =
    let count = count_with seating.players chosen in
    let tables = other_open_tables seating table in
    let parts = next-parts seating table chosen place is in
    let at = tables-among (is_other_open seating table) seating.table_count place.table
    (lowest-among count tables place.table parts.0) in
    let seat = lowest-within (is_free seating.players chosen place.table) seating.seat_count place.seat parts.1 in
    record {
      within = record { table = at.1; first = seat.0; last = seat.1 };
      elsewhere = at.0;
      free = find-passes (is_free seating.players chosen place.table)
          (clockwise_after seating.seat_count seating.seat_count) place.seat parts.1;
      fewest = λ other number opened. lowest-least count tables place.table other parts.0
          (among-filter (is_other_open seating table) other (table_numbers seating.table_count) opened
          (among-tables seating.table_count other number));
      first = λ other number opened lower. lower-more count (is_other_open seating table) seating.table_count 0 None
          place.table other (λ table none. absurd cc) parts.0 opened (omega (arith, number.first))
          (omega (arith, number.last)) lower;
      lowest = λ seat first lower. found-first (is_free seating.players chosen place.table) seating.seat_count 0
          place.seat seat (by_number parts.1) (omega (arith, first)) lower;
    }
  where
    by_number : lowest_seat seating.seat_count (is_free seating.players chosen place.table) ≡ Some place.seat
        → find (is_free seating.players chosen place.table) (walk suc seating.seat_count 0) ≡ Some place.seat
    by_number is = ap (find (is_free seating.players chosen place.table)) (sym (walk-all seating.seat_count)) ∙ is

-- And there is no other such seat.
pub is-next : (seating : Seating) (table : ℕ) (chosen : List Place) (place : Place)
    → IsNextSeat seating table chosen place → next_to_fill seating table chosen ≡ Some place
is-next seating table chosen place next =
    let count = count_with seating.players chosen in
    let tables = other_open_tables seating table in
    let among = among-filter (is_other_open seating table) place.table (table_numbers seating.table_count)
    next.elsewhere (among-tables seating.table_count place.table next.within.table) in
    let there = lowest-there count tables place.table among in
    let least = lowest-least count tables there.0 place.table there.1 among in
    let at = tables-among (is_other_open seating table) seating.table_count there.0
    (lowest-among count tables there.0 there.1) in
    let most = next.fewest there.0 at.1 at.0 in
    let same : there.0 ≡ place.table = elim (cases_lt there.0 place.table) [
      | inl lower ↦ let more = next.first there.0 at.1 at.0 lower in absurd (omega (arith, least, more))
      | inr not_lower ↦ elim (cases_eq there.0 place.table) [
        | inl is ↦ is
        | inr apart ↦
            let more = lower-more count (is_other_open seating table) seating.table_count 0 None there.0 place.table
            (λ table none. absurd cc) there.1 next.elsewhere (omega (arith, next.within.table.first))
            (omega (arith, next.within.table.last)) (omega (arith, not_lower, apart)) in
            absurd (omega (arith, most, more))
      ]
    ] in
    let found : lowest_seat seating.seat_count (is_free seating.players chosen place.table) ≡ Some place.seat =
    ap (find (is_free seating.players chosen place.table)) (walk-all seating.seat_count)
    ∙ first-found (is_free seating.players chosen place.table) seating.seat_count 0 place.seat next.free
    (omega (arith, next.within.first)) (omega (arith, next.within.last))
    (λ seat above below. next.lowest seat (omega (arith, above)) below) in
    ap (seat_there seating chosen) (there.1 ∙ ap Some same) ∙ ap (place_at place.table) found

-- a list with one more behind, split at an item: that is the last one, or one of those before it
split-last : (fewer before after : List Place) (last place : Place) → fewer ++ last ∷ [] ≡ before ++ place ∷ after
    → ((before ≡ fewer) × (last ≡ place)) ⊎ ((rest : List Place) × (fewer ≡ before ++ place ∷ rest))
split-last [] [] after last place is = inl (refl, cc)
split-last [] (first ∷ before) after last place is = absurd (behind before (tail_of is))
  where
    tail_of : last ∷ [] ≡ first ∷ (before ++ place ∷ after) → [] ≡ before ++ place ∷ after
    tail_of is = cc

    behind : (before : List Place) → [] ≡ before ++ place ∷ after → ⊥
    behind [] is = cc
    behind (first ∷ before) is = cc
split-last (first ∷ fewer) [] after last place is =
    let same : first ≡ place = cc in
    inr (fewer, ap (λ (item : Place). item ∷ fewer) same)
split-last (first ∷ fewer) (other ∷ before) after last place is =
    let same : first ≡ other = cc in
    let rest : fewer ++ last ∷ [] ≡ before ++ place ∷ after = cc in
    elim (split-last fewer before after last place rest) [
      | inl parts ↦ inl
          (ap (λ rest. other ∷ rest) parts.0 ∙ ap (λ (item : Place). item ∷ fewer) (sym same), parts.1)
      | inr parts ↦ inr (
        parts.0,
        ap (λ (item : Place). item ∷ fewer) same ∙ ap (λ rest. other ∷ rest) parts.1,
      )
    ]

-- Each seat that is chosen is the next to fill after those that were chosen before it.
pub filled-in_turn : (seating : Seating) (table n : ℕ) (chosen before after : List Place) (place : Place)
    → filled seating table n ≡ Some chosen → chosen ≡ before ++ place ∷ after → IsNextSeat seating table before place
filled-in_turn seating table zero chosen before after place is split =
    let none : [] ≡ before ++ place ∷ after = let empty : [] ≡ chosen = cc in empty ∙ split in
    absurd (some before none)
  where
    some : (before : List Place) → [] ≡ before ++ place ∷ after → ⊥
    some [] is = cc
    some (first ∷ before) is = cc
filled-in_turn seating table (suc n) chosen before after place is split =
    let last = filled-last seating table n chosen is in
    elim (split-last last.0 before after last.1.0 place (sym last.1.1.2 ∙ split)) [
      | inl parts ↦
          let next : next_to_fill seating table before ≡ Some place = ap (next_to_fill seating table) parts.0
          ∙ (last.1.1.1 ∙ ap Some parts.1) in
          next-is seating table before place next
      | inr parts ↦ filled-in_turn seating table n last.0 before parts.0 place last.1.1.0 parts.1
    ]
