-- Lists of at most six numbers in an array of six. This project's own.
use Rattle.std.specs.Prelude.{◌≡◌, ℕ, ◌≤◌, List, [], ◌∷◌, ◌++◌, length, take}
use Rattle.std.proofs.Common.{arith, length-take}

-- the numbers and then zeros, six in all
abbrev pub padded : List ℕ → List ℕ
padded numbers = take 6 (numbers ++ 0 ∷ 0 ∷ 0 ∷ 0 ∷ 0 ∷ 0 ∷ [])

-- an array holds a list of so many numbers, and then zeros
pub record IsPadded (numbers : List ℕ) (len : ℕ) : Type 0 where
  pub few : len ≤ 6
  pub six : length numbers ≡ 6
  pub zeros : padded (take len numbers) ≡ numbers

-- the list gives its array and its length back
pub padded_back : (numbers : List ℕ) (len : ℕ) → IsPadded numbers len
    → (padded (take len numbers) ≡ numbers) × (length (take len numbers) ≡ len)
padded_back numbers len is = (is.zeros, omega (arith, length-take len numbers, is.few, is.six))
