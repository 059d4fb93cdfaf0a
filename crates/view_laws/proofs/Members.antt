-- What holds of each item of a list: of lists in a row, of lists made of others, and of those that a test keeps.
use Rattle.std.proofs.Common.{◌≡◌, refl, subst, Bool, true, false, cond, List, [], ◌∷◌, ◌++◌, map}
use Rattle.std.specs.Prelude.{not, filter, find, Some}
use Rattle.std.specs.List.{flat_map, AllByRecursion}
use Rattle.std.proofs.lemmas.Option.{same_Some}

-- What holds of two lists in a row holds of the first.
pub first_part : {A : Type 0} (P : A → Type 0) (one other : List A) → AllByRecursion P (one ++ other)
    → AllByRecursion P one
first_part P [] other all = tt
first_part P (item ∷ one) other all = (all.0, first_part P one other all.1)

-- It holds of the second.
pub second_part : {A : Type 0} (P : A → Type 0) (one other : List A) → AllByRecursion P (one ++ other)
    → AllByRecursion P other
second_part P [] other all = all
second_part P (item ∷ one) other all = second_part P one other all.1

-- What holds of two lists holds of both in a row.
pub both_parts : {A : Type 0} (P : A → Type 0) (one other : List A) → AllByRecursion P one → AllByRecursion P other
    → AllByRecursion P (one ++ other)
both_parts P [] other first second = second
both_parts P (item ∷ one) other first second = (first.0, both_parts P one other first.1 second)

-- What holds of each item of a list that is made of another holds of what each item of that is made into.
pub made_hold : {A B : Type 0} (P : B → Type 0) (f : A → B) (items : List A) → AllByRecursion P (map f items)
    → AllByRecursion (λ item. P (f item)) items
made_hold P f [] all = tt
made_hold P f (item ∷ items) all = (all.0, made_hold P f items all.1)

-- What holds of what each item of a list is made into holds of each item of the list that is made of it.
pub hold_made : {A B : Type 0} (P : B → Type 0) (f : A → B) (items : List A) → AllByRecursion (λ item. P (f item)) items
    → AllByRecursion P (map f items)
hold_made P f [] all = tt
hold_made P f (item ∷ items) all = (all.0, hold_made P f items all.1)

-- What holds of all that the items of a list give holds of all that each of them gives.
pub given_hold : {A B : Type 0} (P : B → Type 0) (f : A → List B) (items : List A)
    → AllByRecursion P (flat_map f items) → AllByRecursion (λ item. AllByRecursion P (f item)) items
given_hold P f [] all = tt
given_hold P f (item ∷ items) all = (
  first_part P (f item) (flat_map f items) all,
  given_hold P f items (second_part P (f item) (flat_map f items) all),
)

-- It holds of all that they give where it holds of all that each gives.
pub all_given : {A B : Type 0} (P : B → Type 0) (f : A → List B) (items : List A)
    → AllByRecursion (λ item. AllByRecursion P (f item)) items → AllByRecursion P (flat_map f items)
all_given P f [] each = tt
all_given P f (item ∷ items) each =
    both_parts P (f item) (flat_map f items) each.0 (all_given P f items each.1)

-- What holds of everything holds of each item.
pub always_hold : {A : Type 0} (P : A → Type 0) (items : List A) → ((item : A) → P item) → AllByRecursion P items
always_hold P [] always = tt
always_hold P (item ∷ items) always = (always item, always_hold P items always)

-- What holds where something else does holds of each item of which that holds.
pub weaker : {A : Type 0} (P Q : A → Type 0) (items : List A) → ((item : A) → P item → Q item) → AllByRecursion P items
    → AllByRecursion Q items
weaker P Q [] leads all = tt
weaker P Q (item ∷ items) leads all = (leads item all.0, weaker P Q items leads all.1)

-- What holds of each item that passes a test holds of each that it keeps.
pub hold_kept : {A : Type 0} (P : A → Type 0) (test : A → Bool) (items : List A)
    → AllByRecursion (λ item. test item ≡ true → P item) items → AllByRecursion P (filter test items)
hold_kept P test [] all = tt
hold_kept P test (item ∷ items) all = by_test (test item) refl (hold_kept P test items all.1)
  where
    by_test : (passes : Bool) → test item ≡ passes → AllByRecursion P (filter test items)
        → AllByRecursion P (cond passes (item ∷ filter test items) (filter test items))
    by_test true is rest = (all.0 is, rest)
    by_test false is rest = rest

-- What holds of each item holds of each that a test keeps.
pub hold_filter : {A : Type 0} (P : A → Type 0) (test : A → Bool) (items : List A) → AllByRecursion P items
    → AllByRecursion P (filter test items)
hold_filter P test items all =
    hold_kept P test items (weaker P (λ item. test item ≡ true → P item) items (λ item holds passes. holds) all)

-- What holds of each item that a test keeps holds of each item that passes it.
pub kept_hold : {A : Type 0} (P : A → Type 0) (test : A → Bool) (items : List A)
    → AllByRecursion P (filter test items) → AllByRecursion (λ item. test item ≡ true → P item) items
kept_hold P test [] all = tt
kept_hold P test (item ∷ items) all = by_test (test item) refl all (kept_hold P test items)
  where
    by_test : (passes : Bool) → test item ≡ passes
        → AllByRecursion P (cond passes (item ∷ filter test items) (filter test items))
        → (AllByRecursion P (filter test items) → AllByRecursion (λ item. test item ≡ true → P item) items)
        → (test item ≡ true → P item) × AllByRecursion (λ item. test item ≡ true → P item) items
    by_test true is all later = (λ passes. all.0, later all.1)
    by_test false is all later = (λ passes. absurd cc, later all)

-- What holds of each item that passes a test, and of each that does not, holds of each.
pub both_kinds : {A : Type 0} (P : A → Type 0) (test : A → Bool) (items : List A)
    → AllByRecursion P (filter test items) → AllByRecursion P (filter (λ item. not (test item)) items)
    → AllByRecursion P items
both_kinds P test [] kept left = tt
both_kinds P test (item ∷ items) kept left = by_test (test item) kept left (both_kinds P test items)
  where
    by_test : (passes : Bool) → AllByRecursion P (cond passes (item ∷ filter test items) (filter test items))
        → AllByRecursion P (cond (not passes) (item ∷ filter (λ item. not (test item)) items)
        (filter (λ item. not (test item)) items))
        → (AllByRecursion P (filter test items) → AllByRecursion P (filter (λ item. not (test item)) items)
        → AllByRecursion P items)
        → P item × AllByRecursion P items
    by_test true kept left later = (kept.0, later kept.1 left)
    by_test false kept left later = (left.0, later kept left.1)

-- What holds of each item holds of the one that is found.
pub found_holds : {A : Type 0} (P : A → Type 0) (wanted : A → Bool) (items : List A) (found : A)
    → find wanted items ≡ Some found → AllByRecursion P items → P found
found_holds P wanted [] found is all = absurd cc
found_holds P wanted (item ∷ items) found is all =
    by_test (wanted item) is (λ later. found_holds P wanted items found later all.1)
  where
    by_test : (passes : Bool) → cond passes (Some item) (find wanted items) ≡ Some found
        → (find wanted items ≡ Some found → P found) → P found
    by_test true is later = subst P (same_Some item found is) all.0
    by_test false is later = later is
