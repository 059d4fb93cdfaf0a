-- How many of the numbers from one on pass a test.
use Rattle.std.proofs.Common.{◌≡◌, ◌≢◌, ◌∙◌, refl, ap, ℕ, zero, suc, ◌+◌, ◌<◌, ◌≤◌, Bool, true, false, List, [], ◌∷◌, length, get_or, eq-or-lt_of_le, arith, inl, inr}
use Rattle.std.specs.Prelude.{if◌then◌else◌, count_by}
use Rattle.std.proofs.lemmas.List.Sums.{sum_by-cons}

-- How many of so many numbers, from the first on, pass.
abbrev pub count_from : ℕ → ℕ → (ℕ → Bool) → ℕ
count_from first zero test = 0
count_from first (suc more) test = (if test first then 1 else 0) + count_from (suc first) more test

-- Tests that agree count the same.
pub count_from-same : (first more : ℕ) (one other : ℕ → Bool) → ((k : ℕ) → first ≤ k → k < first + more → one k
    ≡ other k) → count_from first more one ≡ count_from first more other
count_from-same first zero one other same = refl
count_from-same first (suc more) one other same =
    let here : one first ≡ other first = same first (omega arith) (omega arith) in
    let there : count_from (suc first) more one ≡ count_from (suc first) more other =
    count_from-same (suc first) more one other (λ k low high. same k (omega arith) (omega arith)) in
    rw (here, there) refl

-- One number more passes.
pub count_from-more : (first more extra : ℕ) (one other : ℕ → Bool) → first ≤ extra → extra < first + more → one extra
    ≡ true → other extra ≡ false
    → ((k : ℕ) → k ≢ extra → one k ≡ other k) → count_from first more one ≡ suc (count_from first more other)
count_from-more first zero extra one other low high passed failed same = absurd (omega arith)
count_from-more first (suc more) extra one other low high passed failed same =
    elim (eq-or-lt_of_le low) [
      | inl here ↦
          let first_yes : one first ≡ true = ap one here ∙ passed in
          let first_no : other first ≡ false = ap other here ∙ failed in
          let rest : count_from (suc first) more one ≡ count_from (suc first) more other =
          count_from-same (suc first) more one other (λ k above within. same k (omega arith)) in
          rw (first_yes, first_no, rest) (omega arith)
      | inr below ↦
          let first_same : one first ≡ other first = same first (omega arith) in
          let rest : count_from (suc first) more one ≡ suc (count_from (suc first) more other) =
          count_from-more (suc first) more extra one other (omega arith) (omega arith) passed failed same in
          rw (first_same, rest) (omega arith)
    ]

-- None passes.
pub count_from-none : (first more : ℕ) (test : ℕ → Bool) → ((k : ℕ) → test k ≡ false) → count_from first more test ≡ 0
count_from-none first zero test none = refl
count_from-none first (suc more) test none = rw (none first, count_from-none (suc first) more test none) refl

count_step : (one other : Bool) (m n : ℕ) → one ≡ other → m ≡ n → (if one then 1 else 0) + m
    ≡ (if other then 1 else 0) + n
count_step one other m n first second = rw (first, second) refl

-- A count over a list is one over its indices.
pub count_by-count_from : {A : Type 0} (pass : A → Bool) (items : List A) (first : ℕ) (test : ℕ → Bool) (d : A)
    → ((k : ℕ) → k < length items → pass (get_or items k d) ≡ test (first + k))
    → count_by pass items ≡ count_from first (length items) test
count_by-count_from pass [] first test d same = refl
count_by-count_from {A = A} pass (item ∷ items) first test d same =
    let here : pass item ≡ test first = same zero (omega arith) ∙ ap test (omega arith) in
    let there : count_by pass items ≡ count_from (suc first) (length items) test = count_by-count_from pass items
    (suc first) test d (λ k within. same (suc k) (omega arith) ∙ ap test (omega arith)) in
    sum_by-cons (λ (item : A). if pass item then 1 else 0) item items ∙ count_step (pass item) (test first)
    (count_by pass items) _ here there
