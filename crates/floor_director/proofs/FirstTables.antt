-- The first table that passes a test, and what that says of the tables before it.
use Rattle.std.proofs.Common.{◌≡◌, ◌∙◌, refl, sym, ap, ℕ, zero, suc, ◌+◌, ◌-◌, ◌<◌, ◌≤◌, Bool, true, false, cond, Option, Some, None, inl, inr, add-one, arith}
use Rattle.std.specs.Prelude.{find}
use Rattle.std.specs.List.{list_any}
use Rattle.std.proofs.lemmas.Bool.{cases_eq, or_left, or_right}
use Rattle.rulebook.specs.Seats.{walk}
use Rattle.rulebook.proofs.Walks.{find_found, find_passed}
use Rattle.seat_book.specs.Counts.{table_numbers}
use Rattle.seat_book.proofs.TableWalks.{tables-over}

-- Before any table is passed, all are left.
pub first-start : (test : ℕ → Bool) (tables : ℕ)
    → find test (walk suc (tables - 0) 0) ≡ find test (table_numbers tables)
first-start test tables =
    let all : tables - 0 ≡ tables = omega arith in ap (λ (n : ℕ). find test (walk suc n 0)) all

-- The next table is found where it passes.
pub first-found : (test : ℕ → Bool) (tables below : ℕ) → below < tables → test (below + 1) ≡ true
    → find test (walk suc (tables - below) below) ≡ Some (below + 1)
first-found test tables below within passes =
    let next : test (suc below) ≡ true = ap test (sym (add-one below)) ∙ passes in
    find_found test suc tables below below within next ∙ ap (λ (n : ℕ). Some n) (sym (add-one below))

-- A table that fails is passed.
pub first-passed : (test : ℕ → Bool) (tables below : ℕ) → below < tables → test (below + 1) ≡ false
    → find test (walk suc (tables - below) below) ≡ find test (walk suc (tables - (below + 1)) (below + 1))
first-passed test tables below within fails =
    let next : test (suc below) ≡ false = ap test (sym (add-one below)) ∙ fails in
    find_passed test suc tables below below within next
    ∙ ap (λ (n : ℕ). find test (walk suc (tables - (below + 1)) n)) (sym (add-one below))

-- None is found once all are passed.
pub first-over : (test : ℕ → Bool) (tables below : ℕ) → tables ≤ below
    → find test (walk suc (tables - below) below) ≡ None
first-over test tables below over = ap (find test) (tables-over tables below over)

-- The first number of a walk that passes a test.
pub record IsLowest (test : ℕ → Bool) (from last found : ℕ) : Type 0 where
  pub passes : test found ≡ true
  pub above : from < found
  pub within : found ≤ last
  -- each other that passes is no lower
  pub lowest : (other : ℕ) → from < other → other ≤ last → test other ≡ true → found ≤ other

-- What is found, or that no number of the walk passes.
abbrev pub IsFirst : (ℕ → Bool) → ℕ → ℕ → Option ℕ → Type 0
IsFirst test from last None = (other : ℕ) → from < other → other ≤ last → test other ≡ false
IsFirst test from last (Some found) = IsLowest test from last found

later-first : (test : ℕ → Bool) (from last : ℕ) (found : Option ℕ) → test (suc from) ≡ false
    → IsFirst test (suc from) last found → IsFirst test from last found
later-first test from last None fails rest = λ other above within.
    elim (cases_eq (suc from) other) [
      | inl here ↦ ap test (sym here) ∙ fails
      | inr differs ↦ rest other (omega (arith, differs, above)) within
    ]
later-first test from last (Some found) fails rest = record {
  passes = rest.passes;
  above = let above = rest.above in omega (arith, above);
  within = rest.within;
  lowest = λ other above within passes.
      elim (cases_eq (suc from) other) [
        | inl here ↦ let never : test other ≡ false = ap test (sym here) ∙ fails in absurd cc
        | inr differs ↦ rest.lowest other (omega (arith, differs, above)) within passes
      ];
}

walk-first : (test : ℕ → Bool) (steps from last : ℕ) → from + steps ≡ last
    → IsFirst test from last (find test (walk suc steps from))
walk-first test zero from last is = λ other above within. absurd (omega arith)
walk-first test (suc steps) from last is =
    by_test (test (suc from)) refl (walk-first test steps (suc from) last (omega arith))
  where
    by_test : (passes : Bool) → test (suc from) ≡ passes
        → IsFirst test (suc from) last (find test (walk suc steps (suc from)))
        → IsFirst test from last (cond passes (Some (suc from)) (find test (walk suc steps (suc from))))
    by_test true passes rest = record {
      passes = passes;
      above = omega arith;
      within = omega (arith, is);
      lowest = λ other above within other_passes. omega (arith, above);
    }
    by_test false fails rest = later-first test from last (find test (walk suc steps (suc from))) fails rest

-- What is found among all tables is the first that passes.
pub tables-first : (test : ℕ → Bool) (tables : ℕ) → IsFirst test 0 tables (find test (table_numbers tables))
tables-first test tables = walk-first test tables 0 tables (omega arith)

walk-any : (test : ℕ → Bool) (steps from other : ℕ) → from < other → other ≤ from + steps → test other ≡ true
    → list_any test (walk suc steps from) ≡ true
walk-any test zero from other above within passes = absurd (omega arith)
walk-any test (suc steps) from other above within passes = elim (cases_eq (suc from) other) [
  | inl here ↦ or_left (test (suc from)) (list_any test (walk suc steps (suc from))) (ap test here ∙ passes)
  | inr differs ↦ or_right (test (suc from)) (list_any test (walk suc steps (suc from)))
      (walk-any test steps (suc from) other (omega (arith, differs, above)) (omega (arith, within)) passes)
]

-- Some table passes where one does.
pub tables-any : (test : ℕ → Bool) (tables other : ℕ) → 0 < other → other ≤ tables → test other ≡ true
    → list_any test (table_numbers tables) ≡ true
tables-any test tables other above within passes = walk-any test tables 0 other above (omega (arith, within)) passes

walk-none : (test : ℕ → Bool) (steps from : ℕ)
    → ((other : ℕ) → from < other → other ≤ from + steps → test other ≡ false)
    → list_any test (walk suc steps from) ≡ false
walk-none test zero from none = refl
walk-none test (suc steps) from none =
    let first : test (suc from) ≡ false = none (suc from) (omega arith) (omega arith) in
    rw first (walk-none test steps (suc from) (λ other above within. none other (omega arith) (omega arith)))

-- No table passes where none does.
pub tables-none : (test : ℕ → Bool) (tables : ℕ)
    → ((other : ℕ) → 0 < other → other ≤ tables → test other ≡ false) → list_any test (table_numbers tables) ≡ false
tables-none test tables none = walk-none test tables 0 (λ other above within. none other above (omega (arith, within)))
