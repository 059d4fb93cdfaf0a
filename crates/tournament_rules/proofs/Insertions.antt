-- What holds of a list with one more item.
use Rattle.std.proofs.Common.{◌≡◌, ◌∙◌, refl, ap, ℕ, Bool, true, false, List, [], ◌∷◌, ◌++◌, take, drop}
use Rattle.std.specs.Prelude.{filter, insert}
use Rattle.std.specs.List.{list_all, All}
use Rattle.std.proofs.lemmas.Bool.{and_from}
use Rattle.std.proofs.lemmas.List.{take-append-drop}
use Rattle.std.proofs.lemmas.List.Folds.{list_all-append}
use Rattle.std.proofs.lemmas.List.Elements.{All-append, All-cons, All-take, All-drop}
use Rattle.rulebook.specs.Pairs.{is_pairwise}
use Rattle.rulebook.proofs.Pairs.{is_pairwise-between}
use Rattle.seat_book.proofs.Numbers.{list_all-parts}

-- All items pass a test also with one more that does.
pub list_all-insert : {A : Type 0} (test : A → Bool) (items : List A) (place : ℕ) (item : A)
    → list_all test items ≡ true → test item ≡ true → list_all test (insert items place item) ≡ true
list_all-insert test items place item all one =
    let parts = list_all-parts test (take place items) (drop place items) (rw (take-append-drop place items) all) in
    list_all-append test (take place items) (item ∷ drop place items) ∙ and_from _ _ parts.0 (and_from _ _ one parts.1)

-- The same of what is so of each item.
pub All-insert : {A : Type 0} (P : A → Type 0) (items : List A) (place : ℕ) (item : A) → All P items → P item
    → All P (insert items place item)
All-insert P items place item all one =
    All-append P (take place items) (item ∷ drop place items) (All-take P place items all)
    (All-cons P item (drop place items) one (All-drop P place items all))

-- A filter leaves out one more item that does not pass.
pub filter-insert_no : {A : Type 0} (test : A → Bool) (items : List A) (place : ℕ) (item : A) → test item ≡ false
    → filter test (insert items place item) ≡ filter test items
filter-insert_no test items place item fails = by_parts (take place items) (drop place items) ∙ ap (filter test)
    (take-append-drop place items)
  where
    by_parts : (front back : List _) → filter test (front ++ item ∷ back) ≡ filter test (front ++ back)
    by_parts [] back = rw fails refl
    by_parts (first ∷ front) back = rw (by_parts front back) refl

-- Each item passes a test with each later one, also with one more that passes it with all both ways.
pub is_pairwise-insert : {A : Type 0} (test : A → A → Bool) (items : List A) (place : ℕ) (item : A)
    → is_pairwise test items ≡ true → list_all (λ other. test other item) items ≡ true
    → list_all (test item) items ≡ true → is_pairwise test (insert items place item) ≡ true
is_pairwise-insert test items place item pairwise before after =
    let fronts = list_all-parts (λ other. test other item) (take place items) (drop place items)
    (rw (take-append-drop place items) before) in
    let backs = list_all-parts (test item) (take place items) (drop place items)
    (rw (take-append-drop place items) after) in
    is_pairwise-between test (take place items) item (drop place items)
    (rw (take-append-drop place items) pairwise) fronts.0 backs.1
