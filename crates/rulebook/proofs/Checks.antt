-- The first check that holds of groups that are joined.
use Rattle.std.proofs.Common.{◌≡◌, refl, Bool, true, false, cond, List, [], ◌∷◌, ◌++◌, Option, Some, None}
use Rattle.std.specs.Prelude.{not, ◌&&◌}
use Rattle.std.specs.List.{list_all}
use Rattle.std.specs.Option.{option_or}
use Rattle.rulebook.specs.Checks.{first_that_holds}

-- The first that holds of two groups is that of the one, else that of the other.
pub first_that_holds-append : {A : Type 0} (one other : List (A × Bool))
    → first_that_holds (one ++ other) ≡ option_or (first_that_holds one) (first_that_holds other)
first_that_holds-append [] other = refl
first_that_holds-append (check ∷ one) other = by_test check.1 (first_that_holds-append one other)
  where
    by_test : (holds : Bool)
        → first_that_holds (one ++ other) ≡ option_or (first_that_holds one) (first_that_holds other)
        → cond holds (Some check.0) (first_that_holds (one ++ other))
        ≡ option_or (cond holds (Some check.0) (first_that_holds one)) (first_that_holds other)
    by_test true rest = refl
    by_test false rest = rest

-- Where no check of the one holds, the first of both is that of the other.
pub first_that_holds-later : {A : Type 0} (one other : List (A × Bool)) → first_that_holds one ≡ None
    → first_that_holds (one ++ other) ≡ first_that_holds other
first_that_holds-later one other none = rw (first_that_holds-append one other, none)

-- Where a check of the one holds, the first of both is that of the one.
pub first_that_holds-sooner : {A : Type 0} (one other : List (A × Bool)) (found : A) → first_that_holds one ≡ Some found
    → first_that_holds (one ++ other) ≡ Some found
first_that_holds-sooner one other found is = rw (first_that_holds-append one other, is)

-- Where no check of both holds, none of either does.
pub none_holds-both : {A : Type 0} (one other : List (A × Bool)) → first_that_holds (one ++ other) ≡ None
    → (first_that_holds one ≡ None) × (first_that_holds other ≡ None)
none_holds-both one other none = by_one (first_that_holds one) refl
  where
    by_one : (found : Option _) → first_that_holds one ≡ found
        → (first_that_holds one ≡ None) × (first_that_holds other ≡ None)
    by_one None same = (same, rw (first_that_holds-later one other same) at none)
    by_one (Some check) same = let sooner = first_that_holds-sooner one other check same in absurd cc

-- Where no check holds first, none holds.
pub none_holds : {A : Type 0} (checks : List (A × Bool)) → first_that_holds checks ≡ None
    → list_all (λ check. not check.1) checks ≡ true
none_holds [] none = refl
none_holds (check ∷ checks) none = by_test check.1 none (none_holds checks)
  where
    by_test : (holds : Bool) → cond holds (Some check.0) (first_that_holds checks) ≡ None
        → (first_that_holds checks ≡ None → list_all (λ check. not check.1) checks ≡ true)
        → (not holds && list_all (λ check. not check.1) checks) ≡ true
    by_test true none rest = cc
    by_test false none rest = rest none
