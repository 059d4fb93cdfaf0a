-- Tests that the items of a list pass, how many of them do, and sums over them.
use Rattle.std.proofs.Common.{◌≡◌, refl, ap, sym, ◌∙◌, ℕ, ◌+◌, ◌≤◌, Bool, true, false, cond, List, [], ◌∷◌, ◌++◌, map, Option, Some, None, inl, inr, arith}
use Rattle.std.specs.Prelude.{◌||◌, ◌&&◌, not, ◌==◌, count_by, find, filter, sum_by}
use Rattle.std.specs.List.{list_any, list_all}
use Rattle.std.specs.Option.{is_some}
use Rattle.std.proofs.lemmas.Bool.{and_parts, and_from, or_left, or_right, cases_Bool, eq-eqb}
use Rattle.std.proofs.lemmas.Bool.Decides.{nat_tests}
use Rattle.std.proofs.lemmas.List.Folds.{list_all-map, fold-map, sum_by-zero}
use Rattle.std.proofs.lemmas.List.Sums.{sum_by-cons}
use Rattle.std.proofs.lemmas.Option.{same_Some}

-- What a test counts for is one at most.
pub at_most_one : (b : Bool) → cond b 1 0 ≤ 1
at_most_one true = omega arith
at_most_one false = omega arith

-- The first of a list counts for one where it passes the test, and else for none.
pub count_by-cons : {A : Type 0} (test : A → Bool) (x : A) (xs : List A)
    → count_by test (x ∷ xs) ≡ cond (test x) 1 0 + count_by test xs
count_by-cons test x xs = sum_by-cons (λ x. cond (test x) 1 0) x xs

-- A sum over a list that is made of another.
pub sum_by-map : {X Y : Type 0} (f : Y → ℕ) (g : X → Y) (xs : List X) → sum_by f (map g xs) ≡ sum_by (λ x. f (g x)) xs
sum_by-map f g xs = fold-map (λ (sum : ℕ) y. sum + f y) g 0 xs

-- The sum of sums.
pub sum_by-plus : {X : Type 0} (f g h : X → ℕ) (xs : List X) → ((x : X) → f x + g x ≡ h x)
    → sum_by f xs + sum_by g xs ≡ sum_by h xs
sum_by-plus f g h [] each = refl
sum_by-plus f g h (x ∷ xs) each =
    omega (arith, sum_by-cons f x xs, sum_by-cons g x xs, sum_by-cons h x xs, each x, sum_by-plus f g h xs each)

-- Whether two numbers are equal does not depend on their order.
pub eqb-swap : (a b : ℕ) → (a == b) ≡ (b == a)
eqb-swap a b = grind (arith, nat_tests)

-- It is not so that one of two holds where neither of them does.
pub not-or : (one other : Bool) → not (one || other) ≡ (not one && not other)
not-or true other = refl
not-or false other = refl

-- All of a list pass a test that everything passes.
pub list_all-always : {A : Type 0} (test : A → Bool) (xs : List A) → ((x : A) → test x ≡ true)
    → list_all test xs ≡ true
list_all-always test [] passes = refl
list_all-always test (x ∷ xs) passes = and_from (test x) (list_all test xs) (passes x) (list_all-always test xs passes)

-- What passes two tests passes a third that follows from them.
pub list_all-both : {A : Type 0} (one other third : A → Bool) (items : List A)
    → ((item : A) → one item ≡ true → other item ≡ true → third item ≡ true)
    → list_all one items ≡ true → list_all other items ≡ true → list_all third items ≡ true
list_all-both one other third [] follows first second = refl
list_all-both one other third (item ∷ items) follows first second =
    let here = and_parts (one item) (list_all one items) first in
    let there = and_parts (other item) (list_all other items) second in
    and_from _ _ (follows item here.0 there.0) (list_all-both one other third items follows here.1 there.1)

-- What passes a test passes another that follows from it.
pub list_all-follows : {A : Type 0} (one other : A → Bool) (items : List A)
    → ((item : A) → one item ≡ true → other item ≡ true) → list_all one items ≡ true → list_all other items ≡ true
list_all-follows one other items follows first =
    list_all-both one one other items (λ item passes again. follows item passes) first first

-- Where none counts, none passes.
pub none_by_count : {A : Type 0} (test : A → Bool) (items : List A) → count_by test items ≡ 0
    → list_all (λ item. not (test item)) items ≡ true
none_by_count test items none =
    list_all-follows (λ item. cond {A = ℕ} (test item) 1 0 == 0) (λ item. not (test item)) items
    (λ item is. fails (test item) is)
    (sym (sum_by-zero (λ item. cond (test item) 1 0) items) ∙ eq-eqb (count_by test items) 0 none)
  where
    fails : (passes : Bool) → (cond {A = ℕ} passes 1 0 == 0) ≡ true → not passes ≡ true
    fails true is = is
    fails false is = refl

-- What passes for all of a list passes for those of it that another test keeps.
pub list_all-kept : {A : Type 0} (test keep : A → Bool) (items : List A) → list_all test items ≡ true
    → list_all test (filter keep items) ≡ true
list_all-kept test keep [] all = refl
list_all-kept test keep (item ∷ items) all =
    let parts = and_parts (test item) (list_all test items) all in
    let rest = list_all-kept test keep items parts.1 in
    elim (cases_Bool (keep item)) [
      | inl kept ↦ rw kept (and_from _ _ parts.0 rest)
      | inr left ↦ rw left rest
    ]

-- All that a test keeps of a list pass it.
pub list_all-filtered : {A : Type 0} (test : A → Bool) (items : List A) → list_all test (filter test items) ≡ true
list_all-filtered test [] = refl
list_all-filtered test (item ∷ items) =
    elim (cases_Bool (test item)) [
      | inl passes ↦ rw passes (and_from _ _ passes (list_all-filtered test items))
      | inr fails ↦ rw fails (list_all-filtered test items)
    ]

-- What passes a test by its key for all of a list does for those of it that are kept.
pub list_all-filter : {A K : Type 0} (test : K → Bool) (key : A → K) (keep : A → Bool) (items : List A)
    → list_all test (map key items) ≡ true → list_all test (map key (filter keep items)) ≡ true
list_all-filter test key keep items all =
    list_all-map test key (filter keep items)
    ∙ list_all-kept (λ item. test (key item)) keep items (sym (list_all-map test key items) ∙ all)

-- One more item, between those in front and those behind.
pub list_all-between : {A : Type 0} (test : A → Bool) (front : List A) (item : A) (behind : List A)
    → list_all test (front ++ behind) ≡ true → test item ≡ true
    → list_all test (front ++ item ∷ behind) ≡ true
list_all-between test [] item behind all here = and_from _ _ here all
list_all-between test (first ∷ front) item behind all here =
    let parts = and_parts (test first) (list_all test (front ++ behind)) all in
    and_from _ _ parts.0 (list_all-between test front item behind parts.1 here)

-- Where somebody passes a test and all pass another, somebody passes a third that follows from both.
pub list_any-both : {A : Type 0} (one other third : A → Bool) (items : List A)
    → ((item : A) → one item ≡ true → other item ≡ true → third item ≡ true)
    → list_any one items ≡ true → list_all other items ≡ true → list_any third items ≡ true
list_any-both one other third [] follows some all = some
list_any-both one other third (item ∷ items) follows some all =
    let parts = and_parts (other item) (list_all other items) all in
    by_first (one item) refl (λ later. list_any-both one other third items follows later parts.1) parts.0
  where
    by_first : (passes : Bool) → one item ≡ passes → (list_any one items ≡ true → list_any third items ≡ true)
        → other item ≡ true → (third item || list_any third items) ≡ true
    by_first true is later too = or_left _ _ (follows item is too)
    by_first false is later too = or_right _ _ (later (rw is at some))

-- Where somebody passes a test, somebody passes another that follows from it.
pub list_any-follows : {A : Type 0} (one other : A → Bool) (items : List A)
    → ((item : A) → one item ≡ true → other item ≡ true) → list_any one items ≡ true → list_any other items ≡ true
list_any-follows one other items follows some =
    list_any-both one (λ item. true) other items (λ item passes always. follows item passes) some
    (list_all-always (λ item. true) items (λ item. refl))

-- Who is found by a test passes it.
pub find-passes : {A : Type 0} (wanted : A → Bool) (items : List A) (found : A) → find wanted items ≡ Some found
    → wanted found ≡ true
find-passes wanted [] found is = absurd cc
find-passes wanted (item ∷ items) found is = by_first (wanted item) refl (λ later. find-passes wanted items found later)
  where
    by_first : (passes : Bool) → wanted item ≡ passes → (find wanted items ≡ Some found → wanted found ≡ true)
        → wanted found ≡ true
    by_first true passes later = let he : item ≡ found = same_Some item found (rw passes at is) in ap wanted (sym he)
        ∙ passes
    by_first false passes later = later (rw passes at is)

-- Who is found passes what all pass.
pub find-all : {A : Type 0} (wanted test : A → Bool) (items : List A) (found : A) → find wanted items ≡ Some found
    → list_all test items ≡ true → test found ≡ true
find-all wanted test [] found is all = absurd cc
find-all wanted test (item ∷ items) found is all =
    let parts = and_parts (test item) (list_all test items) all in
    by_first (wanted item) refl parts.0 (λ later. find-all wanted test items found later parts.1)
  where
    by_first : (passes : Bool) → wanted item ≡ passes → test item ≡ true
        → (find wanted items ≡ Some found → test found ≡ true) → test found ≡ true
    by_first true passes too later = let he : item ≡ found = same_Some item found (rw passes at is) in ap test (sym he)
        ∙ too
    by_first false passes too later = later (rw passes at is)

-- Where the one who is found passes a test, somebody passes it.
pub find-any : {A : Type 0} (wanted test : A → Bool) (items : List A) (found : A) → find wanted items ≡ Some found
    → test found ≡ true → list_any test items ≡ true
find-any wanted test [] found is passes = absurd cc
find-any wanted test (item ∷ items) found is passes =
    by_first (wanted item) refl (λ later. find-any wanted test items found later passes)
  where
    by_first : (here : Bool) → wanted item ≡ here → (find wanted items ≡ Some found → list_any test items ≡ true)
        → (test item || list_any test items) ≡ true
    by_first true here later = let he : item ≡ found = same_Some item found (rw here at is) in
        or_left _ _ (ap test he ∙ passes)
    by_first false here later = or_right _ _ (later (rw here at is))

-- Somebody of a list that is made of another passes a test where somebody of that one does.
pub list_any-made : {A B : Type 0} (test : B → Bool) (made : A → B) (items : List A)
    → list_any test (map made items) ≡ list_any (λ item. test (made item)) items
list_any-made test made [] = refl
list_any-made test made (item ∷ items) =
    ap (λ (others : Bool). test (made item) || others) (list_any-made test made items)

-- An option that has something has this.
pub some_there : {A : Type 0} (found : Option A) → is_some found ≡ true → (x : A) × (found ≡ Some x)
some_there None is = absurd cc
some_there (Some x) is = (x, refl)
