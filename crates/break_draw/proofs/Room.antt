-- The room that is left while seats are chosen, and the table with the lowest count.
use Rattle.std.proofs.Common.{◌≡◌, ◌∙◌, refl, sym, ap, subst, ℕ, zero, suc, ◌+◌, ◌-◌, ◌<◌, ◌≤◌, ◌==◌, ◌≢◌, Bool, true, false, cond, List, [], ◌∷◌, ◌++◌, map, length, Option, None, Some, inl, inr, add-one, arith, length-append}
use Rattle.std.specs.Prelude.{filter, fold, sum, nat_lt, ◌⊎◌}
use Rattle.std.proofs.lemmas.Bool.{cases_eq, eq-eqb, eqb-true, ltb-true, ltb-false, or_cases, or_left, or_right}
use Rattle.std.proofs.lemmas.Bool.Decides.{nat_tests}
use Rattle.std.proofs.lemmas.List.Sums.{sum_by-append}
use Rattle.rulebook.specs.Seats.{walk}
use Rattle.rulebook.proofs.Among.{is_among}
use Rattle.rulebook.proofs.Tests.{at_most_one, count_by-cons}
use Rattle.seat_book.specs.declared.place.Place.{Place}
use Rattle.seat_book.specs.declared.seated.Seated.{Seated}
use Rattle.seat_book.specs.Counts.{count_at}
use Rattle.seat_book.specs.Seatings.{Seating}
use Rattle.balance_rule.specs.Filling.{is_other_open, other_open_tables, empty_elsewhere, is_at, count_with, lower_of, lowest_table, next_to_fill, with_one, one_more, filled}
use Rattle.break_draw.proofs.Growing.{sum-first}

-- what a table with the lowest count is, of a list and one that was found before
record IsLowest (count : ℕ → ℕ) (before : Option ℕ) (tables : List ℕ) (lowest : ℕ) : Type 0 where
  found : (before ≡ Some lowest) ⊎ (is_among lowest tables ≡ true)
  first : (table : ℕ) → before ≡ Some table → count lowest ≤ count table
  least : (table : ℕ) → is_among table tables ≡ true → count lowest ≤ count table

is_lowest : (count : ℕ → ℕ) (before : Option ℕ) (tables : List ℕ) (lowest : ℕ)
    → fold (lower_of count) before tables ≡ Some lowest → IsLowest count before tables lowest
is_lowest count before [] lowest is = record {
  found = inl is;
  first = λ table was. let same : Some table ≡ Some lowest = sym was ∙ is in let one : table ≡ lowest = cc in
      let counts = ap count one in omega (arith, counts);
  least = λ table among. absurd cc;
}
is_lowest count before (other ∷ tables) lowest is =
    step before (is_lowest count (lower_of count before other) tables lowest is)
  where
    step : (before : Option ℕ) → IsLowest count (lower_of count before other) tables lowest
        → IsLowest count before (other ∷ tables) lowest
    step None rest = record {
      found = inr (elim rest.found [
        | inl here ↦ let same : other ≡ lowest = cc in or_left (other == lowest) (is_among lowest tables)
            (eq-eqb other lowest same)
        | inr later ↦ or_right (other == lowest) (is_among lowest tables) later
      ]);
      first = λ table was. absurd cc;
      least = λ table among. elim (or_cases (other == table) (is_among table tables) among) [
        | inl here ↦ subst (λ (n : ℕ). count lowest ≤ count n) (eqb-true other table here) (rest.first other refl)
        | inr later ↦ rest.least table later
      ];
    }
    step (Some table) rest = by_test (nat_lt (count other) (count table)) refl rest
      where
        by_test : (b : Bool) → nat_lt (count other) (count table) ≡ b
            → IsLowest count (Some (cond b other table)) tables lowest
            → IsLowest count (Some table) (other ∷ tables) lowest
        by_test true test rest = record {
          found = inr (elim rest.found [
            | inl here ↦ let same : other ≡ lowest = cc in or_left (other == lowest) (is_among lowest tables)
                (eq-eqb other lowest same)
            | inr later ↦ or_right (other == lowest) (is_among lowest tables) later
          ]);
          first = λ one was. let same : table ≡ one = cc in let counts = ap count same in
              let below = rest.first other refl in let less = ltb-true (count other) (count table) test in
              omega (arith, counts, below, less);
          least = λ one among. elim (or_cases (other == one) (is_among one tables) among) [
            | inl here ↦ subst (λ (n : ℕ). count lowest ≤ count n) (eqb-true other one here) (rest.first other refl)
            | inr later ↦ rest.least one later
          ];
        }
        by_test false test rest = record {
          found = elim rest.found [
            | inl here ↦ inl here
            | inr later ↦ inr (or_right (other == lowest) (is_among lowest tables) later)
          ];
          first = λ one was. rest.first one was;
          least = λ one among. elim (or_cases (other == one) (is_among one tables) among) [
            | inl here ↦
                let counts = ap count (eqb-true other one here) in
                let below = rest.first table refl in
                let less = ltb-false (count other) (count table) test in
                omega (arith, counts, below, less)
            | inr later ↦ rest.least one later
          ];
        }

-- The table with the lowest count is one of the list.
pub lowest-among : (count : ℕ → ℕ) (tables : List ℕ) (lowest : ℕ) → lowest_table count tables ≡ Some lowest
    → is_among lowest tables ≡ true
lowest-among count tables lowest is = elim (is_lowest count None tables lowest is).found [
  | inl none ↦ absurd cc
  | inr among ↦ among
]

-- No table of the list has a lower count.
pub lowest-least : (count : ℕ → ℕ) (tables : List ℕ) (lowest table : ℕ) → lowest_table count tables ≡ Some lowest
    → is_among table tables ≡ true → count lowest ≤ count table
lowest-least count tables lowest table is among = (is_lowest count None tables lowest is).least table among

fold-some : (count : ℕ → ℕ) (before : ℕ) (tables : List ℕ)
    → (lowest : ℕ) × (fold (lower_of count) (Some before) tables ≡ Some lowest)
fold-some count before [] = (before, refl)
fold-some count before (other ∷ tables) =
    fold-some count (cond (nat_lt (count other) (count before)) other before) tables

-- Where the list has a table, one has the lowest count.
pub lowest-there : (count : ℕ → ℕ) (tables : List ℕ) (table : ℕ) → is_among table tables ≡ true
    → (lowest : ℕ) × (lowest_table count tables ≡ Some lowest)
lowest-there count [] table among = absurd cc
lowest-there count (first ∷ tables) table among = fold-some count first tables

-- Where a sum is more than nothing, so is a part of it.
pub some-part : (value : ℕ → ℕ) (tables : List ℕ) → 0 < sum (map value tables)
    → (table : ℕ) × ((is_among table tables ≡ true) × (0 < value table))
some-part value [] more = absurd (omega arith)
some-part value (first ∷ tables) more = by_first (value first) refl (some-part value tables)
  where
    by_first : (n : ℕ) → value first ≡ n → (0 < sum (map value tables)
        → (table : ℕ) × ((is_among table tables ≡ true) × (0 < value table)))
        → (table : ℕ) × ((is_among table (first ∷ tables) ≡ true) × (0 < value table))
    by_first zero none later =
        let whole = sum-first value first tables in
        let rest = later (omega (arith, none, whole, more)) in
        (rest.0, (or_right (first == rest.0) (is_among rest.0 tables) rest.1.0, rest.1.1))
    by_first (suc n) some later = (
      first,
      (
        or_left (first == first) (is_among first tables) (eq-eqb first first refl),
        omega (arith, some),
      ),
    )

module _ (test : ℕ → Bool) (before after : ℕ → ℕ) (one : ℕ) (same : (table : ℕ) → table ≢ one
    → before table ≡ after table)
    (less : before one ≤ after one + 1) where
  -- tables above the one keep their sum
  same-above : (steps from : ℕ) → one ≤ from
      → sum (map before (filter test (walk suc steps from))) ≡ sum (map after (filter test (walk suc steps from)))
  same-above zero from above = refl
  same-above (suc steps) from above =
      by_test (test (suc from)) (same-above steps (suc from) (omega arith)) (same (suc from) (λ is. omega arith))
    where
      by_test : (b : Bool) → sum (map before (filter test (walk suc steps (suc from))))
          ≡ sum (map after (filter test (walk suc steps (suc from)))) → before (suc from) ≡ after (suc from)
          → sum (map before (cond b (suc from ∷ filter test (walk suc steps (suc from)))
          (filter test (walk suc steps (suc from))))) ≡ sum (map after (cond b
          (suc from ∷ filter test (walk suc steps (suc from))) (filter test (walk suc steps (suc from)))))
      by_test true rest here =
          let one_before = sum-first before (suc from) (filter test (walk suc steps (suc from))) in
          let one_after = sum-first after (suc from) (filter test (walk suc steps (suc from))) in
          omega (arith, rest, here, one_before, one_after)
      by_test false rest here = rest

  -- A sum falls by at most one where one value falls by at most one.
  pub falls-one : (steps from : ℕ) → sum (map before (filter test (walk suc steps from)))
      ≤ sum (map after (filter test (walk suc steps from))) + 1
  falls-one zero from = omega arith
  falls-one (suc steps) from = by_test (test (suc from)) (cases_eq (suc from) one) (falls-one steps (suc from))
    where
      by_test : (b : Bool) → (suc from ≡ one) ⊎ (suc from ≢ one)
          → sum (map before (filter test (walk suc steps (suc from))))
          ≤ sum (map after (filter test (walk suc steps (suc from)))) + 1
          → sum (map before (cond b (suc from ∷ filter test (walk suc steps (suc from)))
          (filter test (walk suc steps (suc from))))) ≤ sum (map after (cond b
          (suc from ∷ filter test (walk suc steps (suc from))) (filter test (walk suc steps (suc from))))) + 1
      by_test false _ rest = rest
      by_test true (inl is) rest =
          let above = same-above steps (suc from) (omega arith) in
          let here : before (suc from) ≤ after (suc from) + 1 =
          subst (λ (n : ℕ). before n ≤ after n + 1) (sym is) less in
          let one_before = sum-first before (suc from) (filter test (walk suc steps (suc from))) in
          let one_after = sum-first after (suc from) (filter test (walk suc steps (suc from))) in
          omega (arith, above, here, one_before, one_after)
      by_test true (inr apart) rest =
          let here = same (suc from) apart in
          let one_before = sum-first before (suc from) (filter test (walk suc steps (suc from))) in
          let one_after = sum-first after (suc from) (filter test (walk suc steps (suc from))) in
          omega (arith, rest, here, one_before, one_after)

-- The count of a table with one more chosen seat.
pub count_with-more : (players : List Seated) (chosen : List Place) (place : Place) (table : ℕ)
    → count_with players (chosen ++ place ∷ []) table ≡ count_with players chosen table + cond
    (place.table == table) 1 0
count_with-more players chosen place table =
    let parts = sum_by-append (λ place. cond {A = ℕ} (is_at table place) 1 0) chosen (place ∷ []) in
    let one = count_by-cons (is_at table) place [] in
    omega (arith, parts, one)

-- The room that is left: how many seats of other open tables are neither taken nor chosen.
abbrev pub room_left : Seating → ℕ → List Place → ℕ
room_left seating table chosen = sum (map (λ other. seating.seat_count - count_with seating.players chosen other)
    (other_open_tables seating table))

-- a list of chosen seats that is one longer is one with one more
longer : (seating : Seating) (table : ℕ) (before : Option (List Place)) (chosen : List Place)
    → one_more seating table before ≡ Some chosen → (fewer : List Place) × ((place : Place)
    × ((before ≡ Some fewer) × (next_to_fill seating table fewer ≡ Some place) × (chosen ≡ fewer ++ place ∷ [])))
longer seating table None chosen is = absurd cc
longer seating table (Some fewer) chosen is = by_next (next_to_fill seating table fewer) refl is
  where
    by_next : (next : Option Place) → next_to_fill seating table fewer ≡ next → with_one fewer next ≡ Some chosen
        → (fewer' : List Place) × ((place : Place) × ((Some fewer ≡ Some fewer')
        × (next_to_fill seating table fewer' ≡ Some place) × (chosen ≡ fewer' ++ place ∷ [])))
    by_next None next one = absurd cc
    by_next (Some place) next one = (fewer, (place, (refl, next, cc)))

-- Where seats were chosen, the last was the next to fill.
pub filled-last : (seating : Seating) (table n : ℕ) (chosen : List Place) → filled seating table (suc n) ≡ Some chosen
    → (fewer : List Place) × ((place : Place) × ((filled seating table n ≡ Some fewer)
    × (next_to_fill seating table fewer ≡ Some place) × (chosen ≡ fewer ++ place ∷ [])))
filled-last seating table n chosen is = longer seating table (filled seating table n) chosen is

room-step : (seating : Seating) (table : ℕ) (fewer : List Place) (place : Place)
    → room_left seating table fewer ≤ room_left seating table (fewer ++ place ∷ []) + 1
room-step seating table fewer place = falls-one (is_other_open seating table)
    (λ other. seating.seat_count - count_with seating.players fewer other)
    (λ other. seating.seat_count - count_with seating.players (fewer ++ place ∷ []) other) place.table
    (λ other apart. let more = count_with-more seating.players fewer place other in
    let none : cond {A = ℕ} (place.table == other) 1 0 ≡ 0 = not_here other apart in omega (arith, more, none))
    (let more = count_with-more seating.players fewer place place.table in
    let most = at_most_one (place.table == place.table) in omega (arith, more, most)) seating.table_count 0
  where
    not_here : (other : ℕ) → other ≢ place.table → cond {A = ℕ} (place.table == other) 1 0 ≡ 0
    not_here other apart = grind (arith, nat_tests)

-- The room that is left and the seats that are chosen are together the room that there was.
pub room-enough : (seating : Seating) (table n : ℕ) (chosen : List Place) → filled seating table n ≡ Some chosen
    → empty_elsewhere seating table ≤ room_left seating table chosen + n
room-enough seating table zero chosen is =
    let none : [] ≡ chosen = cc in
    let same : room_left seating table [] ≡ empty_elsewhere seating table = ap (λ value. sum (map value
    (other_open_tables seating table))) (λ i other. seating.seat_count - plain other i) in
    let now = ap (room_left seating table) none in
    omega (arith, same, now)
  where
    plain : (other : ℕ) → count_with seating.players [] other ≡ count_at seating.players other
    plain other = omega arith
room-enough seating table (suc n) chosen is =
    let last = filled-last seating table n chosen is in
    let before = room-enough seating table n last.0 last.1.1.0 in
    let step = room-step seating table last.0 last.1.0 in
    let now = ap (room_left seating table) last.1.1.2 in
    omega (arith, before, step, now)

-- So many seats are chosen.
pub filled-length : (seating : Seating) (table n : ℕ) (chosen : List Place) → filled seating table n ≡ Some chosen
    → length chosen ≡ n
filled-length seating table zero chosen is = let none : [] ≡ chosen = cc in sym (ap length none)
filled-length seating table (suc n) chosen is =
    let last = filled-last seating table n chosen is in
    let before = filled-length seating table n last.0 last.1.1.0 in
    let now = ap length last.1.1.2 in
    let one : length (last.0 ++ last.1.0 ∷ []) ≡ length last.0 + 1 = length-append last.0 (last.1.0 ∷ []) in
    omega (arith, before, now, one)

-- While fewer seats are chosen than the other open tables have empty ones, one of them has the lowest count, and it has
-- an empty seat that is not chosen.
pub lowest-has_room : (seating : Seating) (table n : ℕ) (chosen : List Place) → filled seating table n ≡ Some chosen
    → n < empty_elsewhere seating table → (lowest : ℕ)
    × ((lowest_table (count_with seating.players chosen) (other_open_tables seating table) ≡ Some lowest)
    × (count_with seating.players chosen lowest < seating.seat_count))
lowest-has_room seating table n chosen is within =
    let enough = room-enough seating table n chosen is in
    let some = some-part (λ other. seating.seat_count - count_with seating.players chosen other)
    (other_open_tables seating table) (omega (arith, enough, within)) in
    let lowest = lowest-there (count_with seating.players chosen) (other_open_tables seating table) some.0 some.1.0 in
    let least = lowest-least (count_with seating.players chosen) (other_open_tables seating table) lowest.0 some.0
    lowest.1 some.1.0 in
    (lowest.0, (lowest.1, omega (arith, least, some.1.1)))

-- One more seat is chosen.
pub filled-more : (seating : Seating) (table n : ℕ) (chosen : List Place) (place : Place)
    → filled seating table n ≡ Some chosen → next_to_fill seating table chosen ≡ Some place
    → filled seating table (n + 1) ≡ Some (chosen ++ place ∷ [])
filled-more seating table n chosen place is next =
    ap (filled seating table) (add-one n)
    ∙ (ap (one_more seating table) is ∙ ap (with_one chosen) next)
