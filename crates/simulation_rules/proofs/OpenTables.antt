-- How many tables are open, and how evenly the players sit, where the counts of tables change.
use Rattle.std.proofs.Common.{◌≡◌, ◌≢◌, ◌∙◌, refl, sym, ap, ℕ, zero, suc, ◌+◌, ◌*◌, ◌<◌, ◌≤◌, true, false, cond, ◌==◌, List, ◌⊎◌, inl, inr, arith}
use Rattle.std.specs.Prelude.{nat_lt, count_by, sum_by}
use Rattle.std.proofs.lemmas.Bool.{both_ways, cases_Bool, cases_eq}
use Rattle.std.proofs.lemmas.Bool.Decides.{nat_tests}
use Rattle.std.proofs.lemmas.List.Sums.{sum_by-cons, sum_by-insert, sum_by-le-sum_by}
use Rattle.std.proofs.lemmas.Nat.{mul-le}
use Rattle.rulebook.specs.Seats.{walk}
use Rattle.rulebook.proofs.Tests.{sum_by-plus}
use Rattle.seat_book.specs.declared.seated.Seated.{Seated}
use Rattle.seat_book.specs.Places.{comes_before}
use Rattle.seat_book.specs.Players.{sits_at, sit_down}
use Rattle.seat_book.specs.Counts.{count_at, is_open, table_numbers}
use Rattle.seat_book.specs.Seatings.{Seating, IsSeating}
use Rattle.floor_director.specs.Spread.{count_squared, spread}
use Rattle.floor_director.proofs.Spreading.{at_one, spread-few, sum-at_one, sum-beyond}
use Rattle.simulation_rules.specs.Effort.{effort_of_orders, open_tables}

-- one where a table of so many players is open
abbrev bit_open : ℕ → ℕ
bit_open count = cond (nat_lt 0 count) 1 0

one_there : (table other : ℕ) → table ≡ other → at_one table 1 other ≡ 1
one_there table other same = let passes : (table == other) ≡ true = grind (arith, nat_tests) in rw passes refl

one_elsewhere : (table other : ℕ) → table ≢ other → at_one table 1 other ≡ 0
one_elsewhere table other differs =
    let fails : (table == other) ≡ false = grind (arith, nat_tests) in rw fails refl

-- A walk has one at a table at most once.
sum-most : (table steps from : ℕ) → sum_by (at_one table 1) (walk suc steps from) ≤ 1
sum-most table zero from = omega arith
sum-most table (suc steps) from =
    let first = sum_by-cons (at_one table 1) (suc from) (walk suc steps (suc from)) in
    elim (cases_eq table (suc from)) [
      | inl here ↦
          let rest = sum-beyond table 1 steps (suc from) (omega (arith, here)) in
          let one = one_there table (suc from) here in
          omega (arith, first, rest, one)
      | inr differs ↦
          let rest = sum-most table steps (suc from) in
          let none = one_elsewhere table (suc from) differs in
          omega (arith, first, rest, none)
    ]

bit_most : (count : ℕ) → bit_open count ≤ 1
bit_most count = grind (arith, nat_tests)

open-fewer : (one other : ℕ) → one ≤ other → bit_open one ≤ bit_open other
open-fewer one other fewer = grind (arith, nat_tests)

open-more : (one other more : ℕ) → one ≡ other + more → bit_open one ≤ bit_open other + more
open-more one other more is = grind (arith, nat_tests)

-- Where no table has more players than before, orders take no more.
pub orders-fewer : (before after : Seating) → after.table_count ≡ before.table_count
    → ((table : ℕ) → count_at after.players table ≤ count_at before.players table)
    → effort_of_orders after ≤ effort_of_orders before
unfolding effort_of_orders spread
orders-fewer before after same fewer =
    let all = table_numbers before.table_count in
    let opens = sum_by-le-sum_by (λ table. bit_open (count_at after.players table))
    (λ table. bit_open (count_at before.players table)) all
    (λ table. open-fewer (count_at after.players table) (count_at before.players table) (fewer table)) in
    let squares = sum_by-le-sum_by (count_squared after) (count_squared before) all
    (λ table. mul-le (count_at after.players table) (count_at after.players table) (count_at before.players table)
    (count_at before.players table) (fewer table) (fewer table)) in
    let counted = ap (λ (tables : ℕ). count_by (is_open after.players) (table_numbers tables)) same in
    let summed = ap (λ (tables : ℕ). sum_by (count_squared after) (table_numbers tables)) same in
    omega (arith, opens, squares, counted, summed)

-- Orders take at most 6,400 steps more than the open tables do.
pub orders-most : (seating : Seating) → IsSeating seating
    → effort_of_orders seating ≤ 6401 * open_tables seating + 6400
unfolding effort_of_orders
orders-most seating valid = let few = spread-few seating valid in omega (arith, few)

-- Orders take at least what the open tables do.
pub orders-least : (seating : Seating) → 6401 * open_tables seating ≤ effort_of_orders seating
unfolding effort_of_orders
orders-least seating = omega arith

-- Where the players sit less evenly by two and no more tables are open, orders take fewer.
pub orders-narrow : (before after : Seating) → open_tables after ≤ open_tables before
    → spread after + 2 ≤ spread before → effort_of_orders after < effort_of_orders before
unfolding effort_of_orders
orders-narrow before after opens narrows = omega (arith, opens, narrows)

-- A player who sits down opens at most one table.
pub open-sit_down : (tables : ℕ) (seated : Seated) (players : List Seated)
    → count_by (is_open (sit_down seated players)) (table_numbers tables)
    ≤ count_by (is_open players) (table_numbers tables) + 1
open-sit_down tables seated players =
    let own = seated.place.table in
    let after : ℕ → ℕ = λ table. bit_open (count_at (sit_down seated players) table) in
    let before : ℕ → ℕ = λ table. bit_open (count_at players table) in
    let both : ℕ → ℕ = λ table. bit_open (count_at players table) + at_one own 1 table in
    let all = table_numbers tables in
    let sum = sum_by-plus before (at_one own 1) both all (λ table. refl) in
    let most = sum_by-le-sum_by after both all
    (λ table. open-more (count_at (sit_down seated players) table) (count_at players table) (at_one own 1 table)
    (sum_by-insert (λ other. cond {A = ℕ} (sits_at table other) 1 0) players
    (count_by (λ other. comes_before other.place seated.place) players) seated)) in
    let one = sum-most own tables 0 in
    omega (arith, sum, most, one)

-- Where no table has players that had none, no more tables are open.
pub open-kept : (tables : ℕ) (before after : List Seated)
    → ((other : ℕ) → is_open before other ≡ false → count_at after other ≡ 0)
    → count_by (is_open after) (table_numbers tables) ≤ count_by (is_open before) (table_numbers tables)
open-kept tables before after none =
    sum_by-le-sum_by (λ other. bit_open (count_at after other)) (λ other. bit_open (count_at before other))
    (table_numbers tables) (λ other. here other (cases_Bool (is_open before other)))
  where
    here : (other : ℕ) → (is_open before other ≡ true) ⊎ (is_open before other ≡ false)
        → bit_open (count_at after other) ≤ bit_open (count_at before other)
    here other (inl is) =
        let most = bit_most (count_at after other) in
        let shown : bit_open (count_at before other) ≡ 1 = rw is refl in
        omega (arith, most, shown)
    here other (inr is) =
        let shut : bit_open (count_at after other) ≡ 0 = ap bit_open (none other is) in omega (arith, shut)

-- Where one table has no more players, and none has players that had none, one table fewer is open.
pub open-closed : (tables table : ℕ) (before after : List Seated) → 1 ≤ table → table ≤ tables
    → is_open before table ≡ true → count_at after table ≡ 0
    → ((other : ℕ) → is_open before other ≡ false → count_at after other ≡ 0)
    → count_by (is_open after) (table_numbers tables) + 1 ≤ count_by (is_open before) (table_numbers tables)
open-closed tables table before after first last opened closed none =
    let all = table_numbers tables in
    let later : ℕ → ℕ = λ other. bit_open (count_at after other) in
    let earlier : ℕ → ℕ = λ other. bit_open (count_at before other) in
    let both : ℕ → ℕ = λ other. bit_open (count_at after other) + at_one table 1 other in
    let sum = sum_by-plus later (at_one table 1) both all (λ other. refl) in
    let most = sum_by-le-sum_by both earlier all (λ other. here other (cases_Bool (is_open before other))) in
    let one = sum-at_one table 1 tables 0 (omega (arith, first)) (omega (arith, last)) in
    omega (arith, sum, most, one)
  where
    here : (other : ℕ) → (is_open before other ≡ true) ⊎ (is_open before other ≡ false)
        → bit_open (count_at after other) + at_one table 1 other ≤ bit_open (count_at before other)
    here other (inl is) = elim (cases_eq table other) [
      | inl same ↦
          let nobody : count_at after other ≡ 0 = ap (count_at after) (sym same) ∙ closed in
          let one = one_there table other same in
          let shut : bit_open (count_at after other) ≡ 0 = ap bit_open nobody in
          let shown : bit_open (count_at before other) ≡ 1 = rw is refl in
          omega (arith, one, shut, shown)
      | inr differs ↦
          let none = one_elsewhere table other differs in
          let most = bit_most (count_at after other) in
          let shown : bit_open (count_at before other) ≡ 1 = rw is refl in
          omega (arith, none, most, shown)
    ]
    here other (inr is) =
        let differs : table ≢ other = λ same.
        let never = both_ways (is_open before other) is (ap (is_open before) (sym same) ∙ opened) in never in
        let zero_here = one_elsewhere table other differs in
        let shut : bit_open (count_at after other) ≡ 0 = ap bit_open (none other is) in
        omega (arith, zero_here, shut)
