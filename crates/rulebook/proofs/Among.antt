-- Numbers that are in a list.
use Rattle.std.proofs.Common.{◌≡◌, ◌∙◌, refl, ap, sym, ℕ, Bool, true, false, cond, List, [], ◌∷◌, inl, inr}
use Rattle.std.specs.Prelude.{◌==◌, ◌⊎◌, filter}
use Rattle.std.specs.List.{list_all, list_any}
use Rattle.std.proofs.lemmas.Bool.{and_parts, eqb-true, or_left, or_right, or_cases}

-- A number is in a list.
abbrev pub is_among : ℕ → List ℕ → Bool
is_among number numbers = list_any (λ other. other == number) numbers

-- What all numbers of a list pass, each of them passes.
pub all-among : (test : ℕ → Bool) (number : ℕ) (numbers : List ℕ) → list_all test numbers ≡ true
    → is_among number numbers ≡ true → test number ≡ true
all-among test number [] all among = absurd cc
all-among test number (first ∷ numbers) all among =
    let parts = and_parts (test first) (list_all test numbers) all in
    elim (or_cases (first == number) (is_among number numbers) among) [
      | inl here ↦ ap test (sym (eqb-true first number here)) ∙ parts.0
      | inr later ↦ all-among test number numbers parts.1 later
    ]

-- A number of a list that passes a test is among those that pass.
pub among-filter : (test : ℕ → Bool) (number : ℕ) (numbers : List ℕ) → test number ≡ true
    → is_among number numbers ≡ true → is_among number (filter test numbers) ≡ true
among-filter test number [] passes among = cc
among-filter test number (first ∷ numbers) passes among =
    by_test (test first) refl (among-filter test number numbers passes)
    (or_cases (first == number) (is_among number numbers) among)
  where
    by_test : (b : Bool) → test first ≡ b
        → (is_among number numbers ≡ true → is_among number (filter test numbers) ≡ true)
        → ((first == number) ≡ true) ⊎ (is_among number numbers ≡ true)
        → is_among number (cond b (first ∷ filter test numbers) (filter test numbers)) ≡ true
    by_test true is later (inl here) = or_left (first == number) (is_among number (filter test numbers)) here
    by_test true is later (inr among) = or_right (first == number) (is_among number (filter test numbers)) (later among)
    by_test false is later (inl here) =
        let same : test number ≡ false = ap test (sym (eqb-true first number here)) ∙ is in absurd cc
    by_test false is later (inr among) = later among

-- What is among those of a list that pass a test passes it, and is in the list.
pub among-passes : (test : ℕ → Bool) (number : ℕ) (numbers : List ℕ) → is_among number (filter test numbers) ≡ true
    → (test number ≡ true) × (is_among number numbers ≡ true)
among-passes test number [] among = absurd cc
among-passes test number (first ∷ numbers) among =
    by_test (test first) refl (among-passes test number numbers) among
  where
    by_test : (b : Bool) → test first ≡ b
        → (is_among number (filter test numbers) ≡ true → (test number ≡ true) × (is_among number numbers ≡ true))
        → is_among number (cond b (first ∷ filter test numbers) (filter test numbers)) ≡ true
        → (test number ≡ true) × (is_among number (first ∷ numbers) ≡ true)
    by_test true passes later among = elim (or_cases (first == number) (is_among number (filter test numbers)) among) [
      | inl here ↦ (
        ap test (sym (eqb-true first number here)) ∙ passes,
        or_left (first == number) (is_among number numbers) here,
      )
      | inr rest ↦ let parts = later rest in (parts.0, or_right (first == number) (is_among number numbers) parts.1)
    ]
    by_test false fails later among =
        let parts = later among in (parts.0, or_right (first == number) (is_among number numbers) parts.1)
