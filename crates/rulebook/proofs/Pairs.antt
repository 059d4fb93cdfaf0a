-- What holds between each item of a list and each later one.
use Rattle.std.proofs.Common.{◌≡◌, ◌∙◌, refl, sym, Bool, true, List, [], ◌∷◌, ◌++◌, map, inl, inr}
use Rattle.std.specs.Prelude.{filter}
use Rattle.std.specs.List.{list_all}
use Rattle.std.proofs.lemmas.Bool.{and_parts, and_from, cases_Bool}
use Rattle.std.proofs.lemmas.List.Folds.{list_all-map}
use Rattle.rulebook.proofs.Tests.{list_all-follows, list_all-kept, list_all-between}
use Rattle.rulebook.specs.Pairs.{is_pairwise}

-- Each pair passes a test that follows from one that each pair passes.
pub is_pairwise-follows : {A : Type 0} (one other : A → A → Bool) (items : List A)
    → ((item later : A) → one item later ≡ true → other item later ≡ true)
    → is_pairwise one items ≡ true → is_pairwise other items ≡ true
is_pairwise-follows one other [] follows pairs = refl
is_pairwise-follows one other (item ∷ items) follows pairs =
    let parts = and_parts (list_all (one item) items) (is_pairwise one items) pairs in
    and_from _ _ (list_all-follows (one item) (other item) items (follows item) parts.0)
    (is_pairwise-follows one other items follows parts.1)

-- Each item of a list passes a test with each later one, also of the items' keys.
pub is_pairwise-map : {A B : Type 0} (test : B → B → Bool) (key : A → B) (items : List A)
    → is_pairwise test (map key items) ≡ is_pairwise (λ one other. test (key one) (key other)) items
is_pairwise-map test key [] = refl
is_pairwise-map test key (item ∷ items) = rw
    (list_all-map (test (key item)) key items, is_pairwise-map test key items) refl

-- What holds between the items of a list holds between those that are kept.
pub is_pairwise-kept : {A : Type 0} (test : A → A → Bool) (keep : A → Bool) (items : List A)
    → is_pairwise test items ≡ true → is_pairwise test (filter keep items) ≡ true
is_pairwise-kept test keep [] pairs = refl
is_pairwise-kept test keep (item ∷ items) pairs =
    let parts = and_parts (list_all (test item) items) (is_pairwise test items) pairs in
    let rest = is_pairwise-kept test keep items parts.1 in
    elim (cases_Bool (keep item)) [
      | inl kept ↦ rw kept (and_from _ _ (list_all-kept (test item) keep items parts.0) rest)
      | inr left ↦ rw left rest
    ]

-- What holds between the keys of a list holds between those of the items that are kept.
pub is_pairwise-filter : {A K : Type 0} (test : K → K → Bool) (key : A → K) (keep : A → Bool) (items : List A)
    → is_pairwise test (map key items) ≡ true
    → is_pairwise test (map key (filter keep items)) ≡ true
is_pairwise-filter test key keep items pairs =
    is_pairwise-map test key (filter keep items)
    ∙ is_pairwise-kept (λ one other. test (key one) (key other)) keep items
    (sym (is_pairwise-map test key items) ∙ pairs)

-- Where each item in front passes the test with one more, and it with each behind, each pair passes.
pub is_pairwise-between : {A : Type 0} (test : A → A → Bool) (front : List A) (item : A) (behind : List A)
    → is_pairwise test (front ++ behind) ≡ true
    → list_all (λ earlier. test earlier item) front ≡ true → list_all (test item) behind ≡ true
    → is_pairwise test (front ++ item ∷ behind) ≡ true
is_pairwise-between test [] item behind pairs before after = and_from _ _ after pairs
is_pairwise-between test (first ∷ front) item behind pairs before after =
    let parts = and_parts (list_all (test first) (front ++ behind)) (is_pairwise test (front ++ behind)) pairs in
    let here = and_parts (test first item) (list_all (λ earlier. test earlier item) front) before in
    and_from _ _ (list_all-between (test first) front item behind parts.0 here.0)
    (is_pairwise-between test front item behind parts.1 here.1 after)
