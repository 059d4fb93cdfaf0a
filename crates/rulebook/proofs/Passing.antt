-- Lists of which all items pass a test, or none.
use Rattle.std.proofs.Common.{◌≡◌, refl, ap, ℕ, zero, suc, Bool, true, false, cond, List, [], ◌∷◌, map, length, None, Some, sym, ◌∙◌}
use Rattle.std.specs.Prelude.{◌&&◌, ◌||◌, not, count_by, filter, find, slice_get, sum, sum_by}
use Rattle.std.specs.List.{list_all, list_any}
use Rattle.std.proofs.lemmas.Bool.{and_parts, and_from, not-true}
use Rattle.std.proofs.lemmas.List.{map-id}
use Rattle.std.proofs.lemmas.List.Sums.{length-filter, sum-map}
use Rattle.rulebook.proofs.Tests.{list_all-always}

-- Where none passes, none is found.
pub find-none : {A : Type 0} (test : A → Bool) (xs : List A) → list_all (λ x. not (test x)) xs ≡ true
    → find test xs ≡ None
find-none test [] none = refl
find-none test (x ∷ xs) none =
    let parts = and_parts (not (test x)) (list_all (λ x. not (test x)) xs) none in
    rw (not-true (test x) parts.0) (find-none test xs parts.1)

-- Where none is found, none passes.
pub none-find : {A : Type 0} (test : A → Bool) (xs : List A) → find test xs ≡ None
    → list_all (λ x. not (test x)) xs ≡ true
none-find test [] none = refl
none-find test (x ∷ xs) none = by_test (test x) refl (none-find test xs)
  where
    by_test : (b : Bool) → test x ≡ b → (find test xs ≡ None → list_all (λ x. not (test x)) xs ≡ true)
        → list_all (λ x. not (test x)) (x ∷ xs) ≡ true
    by_test true is others = let found : Some x ≡ None = rw is at none in absurd cc
    by_test false is others = and_from (not (test x)) (list_all (λ x. not (test x)) xs) (ap not is)
        (others (rw is at none))

-- Where all pass, a filter leaves all.
pub filter-all : {A : Type 0} (test : A → Bool) (xs : List A) → list_all test xs ≡ true → filter test xs ≡ xs
filter-all test [] all = refl
filter-all test (x ∷ xs) all =
    let parts = and_parts (test x) (list_all test xs) all in
    rw parts.0 (ap (λ rest. x ∷ rest) (filter-all test xs parts.1))

-- A filter by a test that everything passes leaves all.
pub filter-always : {A : Type 0} (test : A → Bool) (xs : List A) → ((x : A) → test x ≡ true) → filter test xs ≡ xs
filter-always test xs passes = filter-all test xs (list_all-always test xs passes)

-- Where none passes, a filter leaves none.
pub filter-none : {A : Type 0} (test : A → Bool) (xs : List A) → list_all (λ x. not (test x)) xs ≡ true
    → filter test xs ≡ []
filter-none test [] none = refl
filter-none test (x ∷ xs) none =
    let parts = and_parts (not (test x)) (list_all (λ x. not (test x)) xs) none in
    rw (not-true (test x) parts.0) (filter-none test xs parts.1)

-- Where a filter leaves none, none passes.
pub none-filter : {A : Type 0} (test : A → Bool) (xs : List A) → filter test xs ≡ []
    → list_all (λ x. not (test x)) xs ≡ true
none-filter test [] none = refl
none-filter test (x ∷ xs) none = by_test (test x) refl (none-filter test xs)
  where
    by_test : (b : Bool) → test x ≡ b → (filter test xs ≡ [] → list_all (λ x. not (test x)) xs ≡ true)
        → list_all (λ x. not (test x)) (x ∷ xs) ≡ true
    by_test true is others = let left : x ∷ filter test xs ≡ [] = rw is at none in absurd cc
    by_test false is others = and_from (not (test x)) (list_all (λ x. not (test x)) xs) (ap not is)
        (others (rw is at none))

-- Where all pass, all count.
pub count_by-all : {A : Type 0} (test : A → Bool) (xs : List A) → list_all test xs ≡ true → count_by test xs ≡ length xs
count_by-all test xs all = sym (length-filter test xs) ∙ ap length (filter-all test xs all)

-- Where none passes, none counts.
pub count_by-none : {A : Type 0} (test : A → Bool) (xs : List A) → list_all (λ x. not (test x)) xs ≡ true
    → count_by test xs ≡ 0
count_by-none test xs none = sym (length-filter test xs) ∙ ap length (filter-none test xs none)

-- It is not so that somebody passes where all fail.
pub not-any : {A : Type 0} (test : A → Bool) (xs : List A) → not (list_any test xs) ≡ list_all (λ x. not (test x)) xs
not-any test [] = refl
not-any test (x ∷ xs) = by_test (test x) (not-any test xs)
  where
    by_test : (b : Bool) → not (list_any test xs) ≡ list_all (λ x. not (test x)) xs
        → not (b || list_any test xs) ≡ (not b && list_all (λ x. not (test x)) xs)
    by_test true rest = refl
    by_test false rest = rest

-- Where all pass one test, of which another fails, none passes the other.
pub list_any-none : {A : Type 0} (right test : A → Bool) (xs : List A)
    → ((x : A) → right x ≡ true → test x ≡ false) → list_all right xs ≡ true → list_any test xs ≡ false
list_any-none right test [] fails all = refl
list_any-none right test (x ∷ xs) fails all =
    let parts = and_parts (right x) (list_all right xs) all in
    rw (fails x parts.0) (list_any-none right test xs fails parts.1)

-- What all pass, the item at an index passes.
pub list_all-get : {A : Type 0} (test : A → Bool) (xs : List A) (index : ℕ) (x : A) → list_all test xs ≡ true
    → slice_get xs index ≡ Some x → test x ≡ true
list_all-get test [] index x all is = absurd cc
list_all-get test (first ∷ xs) zero x all is = let same : first ≡ x = cc in
    ap test (sym same) ∙ (and_parts (test first) (list_all test xs) all).0
list_all-get test (first ∷ xs) (suc index) x all is =
    list_all-get test xs index x (and_parts (test first) (list_all test xs) all).1 is

-- Two functions that agree on what passes a test make the same of a list of which all pass.
pub map-agree : {A B : Type 0} (one other : A → B) (test : A → Bool) (xs : List A)
    → ((x : A) → test x ≡ true → one x ≡ other x) → list_all test xs ≡ true → map one xs ≡ map other xs
map-agree one other test [] agree all = refl
map-agree one other test (x ∷ xs) agree all =
    let parts = and_parts (test x) (list_all test xs) all in
    let first = agree x parts.0 in
    let others = map-agree one other test xs agree parts.1 in
    cc

-- Where each item that passes stays, a list of which all pass stays.
pub map-fixed : {A : Type 0} (test : A → Bool) (change : A → A) (xs : List A)
    → ((x : A) → test x ≡ true → change x ≡ x) → list_all test xs ≡ true → map change xs ≡ xs
map-fixed test change xs fixed all = map-agree change (λ x. x) test xs fixed all ∙ map-id xs

-- Two numbers that agree on what passes a test sum to the same over a list of which all pass.
pub sum_by-agree : {A : Type 0} (one other : A → ℕ) (test : A → Bool) (xs : List A)
    → ((x : A) → test x ≡ true → one x ≡ other x) → list_all test xs ≡ true → sum_by one xs ≡ sum_by other xs
sum_by-agree one other test xs agree all =
    sym (sum-map one xs) ∙ ap sum (map-agree one other test xs agree all) ∙ sum-map other xs

-- What is found among those that a test keeps is the first that it keeps and that is wanted.
pub find-filter : {A : Type 0} (keep wanted : A → Bool) (xs : List A)
    → find wanted (filter keep xs) ≡ find (λ x. keep x && wanted x) xs
find-filter keep wanted [] = refl
find-filter keep wanted (x ∷ xs) = by_test (keep x) (find-filter keep wanted xs)
  where
    by_test : (b : Bool) → find wanted (filter keep xs) ≡ find (λ x. keep x && wanted x) xs
        → find wanted (cond b (x ∷ filter keep xs) (filter keep xs))
        ≡ cond (b && wanted x) (Some x) (find (λ x. keep x && wanted x) xs)
    by_test true rest = ap (cond (wanted x) (Some x)) rest
    by_test false rest = rest

-- What one test keeps of what another keeps is what both keep.
pub filter-filter : {A : Type 0} (one other : A → Bool) (xs : List A)
    → filter other (filter one xs) ≡ filter (λ x. one x && other x) xs
filter-filter one other [] = refl
filter-filter one other (x ∷ xs) = by_test (one x) (filter-filter one other xs)
  where
    by_test : (b : Bool) → filter other (filter one xs) ≡ filter (λ x. one x && other x) xs
        → filter other (cond b (x ∷ filter one xs) (filter one xs))
        ≡ cond (b && other x) (x ∷ filter (λ x. one x && other x) xs) (filter (λ x. one x && other x) xs)
    by_test true rest = ap (λ left. cond (other x) (x ∷ left) left) rest
    by_test false rest = rest
