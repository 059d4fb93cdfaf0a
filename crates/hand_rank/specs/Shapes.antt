-- How often the ranks of five cards occur, category by category. This project's own.
use Rattle.std.specs.Prelude.{ℕ, zero, suc, ◌+◌, ◌*◌, Bool, ◌&&◌, ◌==◌, nat_le, nat_lt, if◌then◌else◌, List, [], ◌∷◌, Option, Some, None}
use Rattle.hand_rank.specs.declared.category.Category.{Category}
use Rattle.hand_rank.specs.Values.{category_number, category_of}

-- how many ranks occur most often, by the number of the category: two pairs have two, five distinct ranks none
abbrev pub most_of : ℕ → ℕ
most_of number = if number == 2 then 2 else if number == 0 then 0 else if number == 5 then 0 else 1

-- a number so many times
abbrev pub repeated : ℕ → ℕ → List ℕ
repeated zero often = []
repeated (suc n) often = often ∷ repeated n often

-- how often the distinct ranks occur in a hand, by the number of its category
abbrev pub shape_at : ℕ → List ℕ
shape_at number =
    if number == 7 then 4 ∷ 1 ∷ []
    else if number == 6 then 3 ∷ 2 ∷ []
    else if number == 3 then 3 ∷ 1 ∷ 1 ∷ []
    else if number == 2 then 2 ∷ 2 ∷ 1 ∷ []
    else if number == 1 then 2 ∷ 1 ∷ 1 ∷ 1 ∷ []
    else 1 ∷ 1 ∷ 1 ∷ 1 ∷ 1 ∷ []

-- the number of a category that is told by how often ranks occur, and else zero, the number of the lowest
abbrev pub number_of : Option Category → ℕ
number_of None = 0
number_of (Some category) = category_number category

-- five cards have m ranks k times each and c others j times each, fewer times, and their category is told by that
abbrev pub is_form : (number m k c j : ℕ) → Bool
is_form number m k c j =
    number_of (category_of (shape_at number)) == number && m * k + c * j == 5 && nat_le (m + c) 5
    && most_of number == m && nat_le 1 c && nat_le 1 j && nat_lt j k && nat_le k 4
