-- Counts over lists.
use Rattle.std.proofs.Common.{◌≡◌, ◌∙◌, refl, ap, ℕ, zero, suc, ◌+◌, ◌-◌, ◌<◌, ◌≤◌, min, max, Bool, true, false, List, [], ◌∷◌, length, get_or, arith, cond}
use Rattle.std.specs.Prelude.{if◌then◌else◌, count_by, ◌&&◌, nat_lt, nat_le}
use Rattle.std.proofs.lemmas.Bool.Decides.{nat_tests}
use Rattle.std.proofs.lemmas.List.Sums.{get_or-le-sum_by}
use Rattle.rulebook.proofs.Tests.{count_by-cons}

-- Tests that agree count the same.
pub count_by-same : {A : Type 0} (one other : A → Bool) (items : List A) → ((item : A) → one item ≡ other item)
    → count_by one items ≡ count_by other items
count_by-same one other items same = λ i. count_by (λ item. same item i) items

-- Where two tests that exclude each other follow into a third, it counts at least both.
pub count_by-both : {A : Type 0} (one other third : A → Bool) (items : List A)
    → ((item : A) → (if one item then 1 else 0) + (if other item then 1 else 0) ≤ (if third item then 1 else 0))
    → count_by one items + count_by other items ≤ count_by third items
count_by-both one other third [] follows = omega arith
count_by-both one other third (item ∷ items) follows =
    let first = count_by-cons one item items in
    let second = count_by-cons other item items in
    let third_count = count_by-cons third item items in
    let here = follows item in
    let rest = count_by-both one other third items follows in
    omega (arith, first, second, third_count, here, rest)

-- Where a test holds of just those of whom one of two others holds, which exclude each other, it counts both.
pub count_by-sum : {A : Type 0} (one other third : A → Bool) (items : List A)
    → ((item : A) → (k : ℕ) → k < length items → item ≡ get_or items k item → (if one item then 1 else 0) +
    (if other item then 1 else 0) ≡ (if third item then 1 else 0)) → count_by one items + count_by other items
    ≡ count_by third items
count_by-sum one other third [] same = refl
count_by-sum one other third (item ∷ items) same =
    let first = count_by-cons one item items in
    let second = count_by-cons other item items in
    let third_count = count_by-cons third item items in
    let here = same item zero (omega arith) refl in
    let rest = count_by-sum one other third items (λ later k within is. same later (suc k) (omega arith) is) in
    omega (arith, first, second, third_count, here, rest)

-- An item that passes is counted.
pub count_by-some : {A : Type 0} (test : A → Bool) (items : List A) (k : ℕ) (d : A) → k < length items
    → test (get_or items k d) ≡ true → 1 ≤ count_by test items
count_by-some test items k d within passes =
    let his = get_or-le-sum_by (λ item. cond {A = ℕ} (test item) 1 0) items k d within in
    let one = ap (λ (b : Bool). cond {A = ℕ} b 1 0) passes in
    omega (arith, his, one)

-- Where none passes, none is counted.
pub count_by-none : {A : Type 0} (test : A → Bool) (items : List A)
    → ((k : ℕ) (d : A) → k < length items → test (get_or items k d) ≡ false) → count_by test items ≡ 0
count_by-none test [] none = refl
count_by-none test (item ∷ items) none =
    let count = count_by-cons test item items in
    let here : ◌≡◌ {A = ℕ} (if test item then 1 else 0) 0 = rw (none zero item (omega arith)) refl in
    let rest = count_by-none test items (λ k d within. none (suc k) d (omega arith)) in
    omega (arith, count, here, rest)

range-step : (from to first more : ℕ) → (if nat_le from first && nat_lt first to then 1 else 0) +
    (min to (suc first + more) - max from (suc first)) ≡ min to (first + suc more) - max from first
range-step from to first more = grind (arith, nat_tests)

-- A test that holds at just the indices of a range counts them.
pub count_by-range : {A : Type 0} (test : A → Bool) (items : List A) (from to first : ℕ) (d : A)
    → ((k : ℕ) → k < length items → test (get_or items k d) ≡ (nat_le from (first + k) && nat_lt (first + k) to))
    → count_by test items ≡ min to (first + length items) - max from first
count_by-range test [] from to first d holds = empty from to first
  where
    empty : (a b n : ℕ) → 0 ≡ min b (n + 0) - max a n
    empty a b n = omega arith
count_by-range test (item ∷ items) from to first d holds =
    let here : test item ≡ (nat_le from first && nat_lt first to) = holds zero (omega arith)
    ∙ ap (λ n. nat_le from n && nat_lt n to) (omega arith) in
    let rest = count_by-range test items from to (suc first) d (λ k within. holds (suc k) (omega arith)
    ∙ ap (λ n. nat_le from n && nat_lt n to) (omega arith)) in
    count_by-cons test item items ∙ rw (here, rest) (range-step from to first (length items))

-- Two items that pass are counted.
pub count_by-two : {A : Type 0} (test : A → Bool) (items : List A) (i j : ℕ) (d : A) → i < j → j < length items
    → test (get_or items i d) ≡ true → test (get_or items j d) ≡ true → 2 ≤ count_by test items
count_by-two test [] i j d before within first second = absurd (omega arith)
count_by-two test (item ∷ items) i zero d before within first second = absurd (omega arith)
count_by-two test (item ∷ items) zero (suc j) d before within first second =
    let count = count_by-cons test item items in
    let here : ◌≡◌ {A = ℕ} (if test item then 1 else 0) 1 = rw first refl in
    let rest = count_by-some test items j d (omega arith) second in
    omega (arith, count, here, rest)
count_by-two test (item ∷ items) (suc i) (suc j) d before within first second =
    let count = count_by-cons test item items in
    let rest = count_by-two test items i j d (omega arith) (omega arith) first second in
    omega (arith, count, rest)
