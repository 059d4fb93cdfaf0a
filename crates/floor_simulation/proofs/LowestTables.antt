-- The table with the lowest count, among the first so many.
use Rattle.std.proofs.Common.{◌≡◌, ◌∙◌, refl, sym, ap, ℕ, ◌+◌, ◌<◌, ◌≤◌, Bool, true, false, List, Option, Some, None}
use Rattle.std.specs.Prelude.{filter, fold, nat_lt, if◌then◌else◌}
use Rattle.std.proofs.lemmas.Bool.{lt-ltb, le-ltb}
use Rattle.rulebook.proofs.Passing.{filter-all}
use Rattle.rulebook.proofs.Tests.{list_all-always}
use Rattle.seat_book.specs.Counts.{table_numbers}
use Rattle.balance_rule.specs.Filling.{lower_of, lowest_table}
use Rattle.break_draw.proofs.Growing.{folded-one}

all_tables : (tables : ℕ) → filter (λ table. true) (table_numbers tables) ≡ table_numbers tables
all_tables tables =
    filter-all (λ table. true) (table_numbers tables) (list_all-always (λ table. true) (table_numbers tables)
    (λ table. refl))

-- one table more is looked at
lowest-one : (count : ℕ → ℕ) (below lowest : ℕ) (fewer : Bool) → lowest_table count (table_numbers below) ≡ Some lowest
    → nat_lt (count (below + 1)) (count lowest) ≡ fewer
    → lowest_table count (table_numbers (below + 1)) ≡ Some (if fewer then below + 1 else lowest)
lowest-one count below lowest fewer is test =
    ap (fold (lower_of count) None) (sym (all_tables (below + 1)))
    ∙ (folded-one (lower_of count) None (λ table. true) below refl
    ∙ (ap (λ (tables : List ℕ). lower_of count (fold (lower_of count) None tables) (below + 1)) (all_tables below)
    ∙ (ap (λ (found : Option ℕ). lower_of count found (below + 1)) is
    ∙ ap (λ (b : Bool). Some (if b then below + 1 else lowest)) test)))

-- The next table is the lowest where it has fewer.
pub lowest-next : (count : ℕ → ℕ) (below lowest : ℕ) → lowest_table count (table_numbers below) ≡ Some lowest
    → count (below + 1) < count lowest → lowest_table count (table_numbers (below + 1)) ≡ Some (below + 1)
lowest-next count below lowest is fewer =
    lowest-one count below lowest true is (lt-ltb (count (below + 1)) (count lowest) fewer)

-- And else the same stays it.
pub lowest-stays : (count : ℕ → ℕ) (below lowest : ℕ) → lowest_table count (table_numbers below) ≡ Some lowest
    → count lowest ≤ count (below + 1) → lowest_table count (table_numbers (below + 1)) ≡ Some lowest
lowest-stays count below lowest is more =
    lowest-one count below lowest false is (le-ltb (count (below + 1)) (count lowest) more)
