-- What is left of a list's numbers that pass a test, from an index on.
use Rattle.std.proofs.Common.{◌≡◌, ℕ, ◌+◌, ◌<◌, Bool, true, false, cond, List, ◌∷◌, length, drop, get_or, ap, ◌∙◌, refl, add-one, drop-cons}
use Rattle.std.specs.Prelude.{filter}

-- the numbers from an index on that pass the test
abbrev pub left_of : (ℕ → Bool) → List ℕ → ℕ → List ℕ
left_of test items i = filter test (drop i items)

-- the number at the index is among them, if it passes
pub left_of-more : (test : ℕ → Bool) (items : List ℕ) (i : ℕ) → i < length items
    → left_of test items i ≡ cond (test (get_or items i 0)) (get_or items i 0 ∷ left_of test items (i + 1))
    (left_of test items (i + 1))
left_of-more test items i within =
    let split : drop i items ≡ get_or items i 0 ∷ drop (i + 1) items = rw (add-one, drop-cons items i 0 within) refl in
    rw split refl

-- a number at the index that passes is the first of those left, before those that are left from the next index on
pub left_of-taken : (test : ℕ → Bool) (items : List ℕ) (i : ℕ) → i < length items → test (get_or items i 0) ≡ true
    → left_of test items i ≡ get_or items i 0 ∷ left_of test items (i + 1)
left_of-taken test items i within there =
    left_of-more test items i within
    ∙ ap (λ b. cond b (get_or items i 0 ∷ left_of test items (i + 1)) (left_of test items (i + 1))) there

-- where the number at the index does not pass, the same numbers are left from the next index on
pub left_of-passed : (test : ℕ → Bool) (items : List ℕ) (i : ℕ) → i < length items → test (get_or items i 0) ≡ false
    → left_of test items i ≡ left_of test items (i + 1)
left_of-passed test items i within not_there =
    left_of-more test items i within
    ∙ ap (λ b. cond b (get_or items i 0 ∷ left_of test items (i + 1)) (left_of test items (i + 1))) not_there
