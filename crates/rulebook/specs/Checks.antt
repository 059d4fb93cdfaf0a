-- Checks that are made in order, of which the first that holds is the answer. This project's own.
use Rattle.std.specs.Prelude.{◌≡◌, Bool, List, [], ◌∷◌, Option, Some, None, Result, MatchResult, if◌then◌else◌}

-- A check: what is answered where it holds, and whether it holds.
abbrev pub Check : Type 0 → Type 0
Check A = A × Bool

-- What the first check that holds answers, if one holds.
abbrev pub first_that_holds : {A : Type 0} → List (A × Bool) → Option A
first_that_holds [] = None
first_that_holds (check ∷ checks) = if check.1 then Some check.0 else first_that_holds checks

-- What a function of a group of checks gives: Ok exactly where none of them holds, and Err with the first that does.
abbrev pub IsChecked : {A T : Type 0} → List (A × Bool) → Result T A → Type 0
IsChecked checks result =
    MatchResult result (λ _. first_that_holds checks ≡ None) (λ found. first_that_holds checks ≡ Some found)
