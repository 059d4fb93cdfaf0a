-- What holds between each item of a list and each later one. This project's own.
use Rattle.std.specs.Prelude.{ℕ, Bool, true, not, ◌&&◌, nat_lt, List, [], ◌∷◌}
use Rattle.std.specs.List.{list_all}

-- Each item passes a test with each later one.
abbrev pub is_pairwise : {A : Type 0} → (A → A → Bool) → List A → Bool
is_pairwise test [] = true
is_pairwise test (item ∷ items) = list_all (test item) items && is_pairwise test items

-- Each number is below each later one.
abbrev pub are_rising : List ℕ → Bool
are_rising numbers = is_pairwise nat_lt numbers

-- No two items of a list are the same.
abbrev pub are_distinct : {A : Type 0} → (A → A → Bool) → List A → Bool
are_distinct same items = is_pairwise (λ item other. not (same item other)) items
