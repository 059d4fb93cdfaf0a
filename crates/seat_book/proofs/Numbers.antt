-- The players' numbers, when one more sits between others.
use Rattle.std.proofs.Common.{◌≡◌, ◌∙◌, refl, sym, ap, ℕ, ◌+◌, Bool, true, false, cond, ◌==◌, ◌⊎◌, List, [], ◌∷◌, ◌++◌, Option, None, Some, inl, inr, arith}
use Rattle.std.specs.Prelude.{not, find, option_map}
use Rattle.std.specs.List.{list_all}
use Rattle.std.specs.Option.{option_or}
use Rattle.std.proofs.lemmas.Bool.{and_from, and_parts, eqb-true}
use Rattle.std.proofs.lemmas.List.Folds.{find-append, list_all-append}
use Rattle.std.proofs.lemmas.List.Sums.{sum_by-append}
use Rattle.rulebook.proofs.Tests.{count_by-cons, eqb-swap}
use Rattle.seat_book.specs.declared.seated.Seated.{Seated}
use Rattle.seat_book.specs.Players.{sits_at, is_numbered, place_of, are_apart}
use Rattle.seat_book.specs.Counts.{count_at}
use Rattle.rulebook.proofs.Passing.{find-none}

-- nobody of a list has this number
abbrev pub have_not : ℕ → List Seated → Bool
have_not number players = list_all (λ other. not (is_numbered number other)) players

-- what all pass of two lists, all pass of each
pub list_all-parts : {A : Type 0} (test : A → Bool) (xs ys : List A) → list_all test (xs ++ ys) ≡ true
    → (list_all test xs ≡ true) × (list_all test ys ≡ true)
list_all-parts test xs ys all = and_parts (list_all test xs) (list_all test ys) (sym (list_all-append test xs ys) ∙ all)

-- what all pass of each of two lists, all pass of both
pub list_all-joined : {A : Type 0} (test : A → Bool) (xs ys : List A) → list_all test xs ≡ true
    → list_all test ys ≡ true → list_all test (xs ++ ys) ≡ true
list_all-joined test xs ys first others = list_all-append test xs ys
    ∙ and_from (list_all test xs) (list_all test ys) first others

-- one more whose number nobody has
pub apart-insert : (front back : List Seated) (seated : Seated) → are_apart (front ++ back) ≡ true
    → have_not seated.player front ≡ true → have_not seated.player back ≡ true
    → are_apart (front ++ seated ∷ back) ≡ true
apart-insert [] back seated apart front_none back_none = and_from (have_not seated.player back) (are_apart back)
    back_none apart
apart-insert (first ∷ front) back seated apart front_none back_none =
    let parts = and_parts (have_not first.player (front ++ back)) (are_apart (front ++ back)) apart in
    let none = and_parts (not (is_numbered seated.player first)) (have_not seated.player front) front_none in
    let others = list_all-parts (λ other. not (is_numbered first.player other)) front back parts.0 in
    and_from (have_not first.player (front ++ seated ∷ back)) (are_apart (front ++ seated ∷ back))
    (list_all-joined (λ other. not (is_numbered first.player other)) front (seated ∷ back) others.0
    (and_from (not (is_numbered first.player seated)) (have_not first.player back)
    (ap not (eqb-swap seated.player first.player) ∙ none.0) others.1))
    (apart-insert front back seated parts.1 none.1 back_none)

-- one less: nobody else has his number, and the others' numbers stay apart
pub apart-remove : (front back : List Seated) (seated : Seated) → are_apart (front ++ seated ∷ back) ≡ true
    → (are_apart (front ++ back) ≡ true) × (have_not seated.player front ≡ true) × (have_not seated.player back ≡ true)
apart-remove [] back seated apart =
    let parts = and_parts (have_not seated.player back) (are_apart back) apart in
    (parts.1, refl, parts.0)
apart-remove (first ∷ front) back seated apart =
    let parts = and_parts (have_not first.player (front ++ seated ∷ back)) (are_apart (front ++ seated ∷ back)) apart in
    let others = list_all-parts (λ other. not (is_numbered first.player other)) front (seated ∷ back) parts.0 in
    let here = and_parts (not (is_numbered first.player seated)) (have_not first.player back) others.1 in
    let rest = apart-remove front back seated parts.1 in (
      and_from (have_not first.player (front ++ back)) (are_apart (front ++ back))
          (list_all-joined (λ other. not (is_numbered first.player other)) front back others.0 here.1) rest.0,
      and_from (not (is_numbered seated.player first)) (have_not seated.player front)
          (ap not (eqb-swap first.player seated.player) ∙ here.0) rest.1,
      rest.2,
    )

-- what is found in two lists is found in one of them
pub found-append : {A : Type 0} (test : A → Bool) (xs ys : List A) (found : A) → find test (xs ++ ys) ≡ Some found
    → (find test xs ≡ Some found) ⊎ (find test ys ≡ Some found)
found-append {A} test xs ys found is = by_first (find test xs) refl
  where
    by_first : (first : Option A) → find test xs ≡ first → (find test xs ≡ Some found) ⊎ (find test ys ≡ Some found)
    by_first None none = inr (let joined : option_or (find test xs) (find test ys) ≡ Some found = sym
        (find-append test xs ys) ∙ is in rw none at joined)
    by_first (Some x) some = inl (let joined : option_or (find test xs) (find test ys) ≡ Some found = sym
        (find-append test xs ys) ∙ is in some ∙ rw some at joined)

-- a player who sits between others is found by his number, and the others as before
pub place_of-with : (number : ℕ) (front back : List Seated) (seated : Seated) → have_not seated.player front ≡ true
    → place_of (front ++ seated ∷ back) number ≡ cond (seated.player == number) (Some seated.place)
    (place_of (front ++ back) number)
place_of-with number front back seated none = by_number (seated.player == number) refl
  where
    by_number : (b : Bool) → (seated.player == number) ≡ b
        → place_of (front ++ seated ∷ back) number ≡ cond b (Some seated.place) (place_of (front ++ back) number)
    by_number true is =
        let same : seated.player ≡ number = eqb-true seated.player number is in
        let absent : find (is_numbered number) front ≡ None = find-none (is_numbered number) front
        (ap (λ (n : ℕ). have_not n front) (sym same) ∙ none) in
        ap (option_map (λ seated. seated.place)) (find-append (is_numbered number) front (seated ∷ back))
        ∙ rw (absent, is) refl
    by_number false is =
        ap (option_map (λ seated. seated.place)) (find-append (is_numbered number) front (seated ∷ back) ∙ rw is
        (sym (find-append (is_numbered number) front back)))

-- nobody is found by a number that nobody has
pub place_of-without : (number : ℕ) (front back : List Seated) → have_not number front ≡ true
    → have_not number back ≡ true → place_of (front ++ back) number ≡ None
place_of-without number front back front_none back_none = ap (option_map (λ seated. seated.place))
    (find-none (is_numbered number) (front ++ back) (list_all-joined (λ other. not (is_numbered number other)) front
    back front_none back_none))

-- a player who sits between others counts at his table
pub count_at-with : (table : ℕ) (front back : List Seated) (seated : Seated)
    → count_at (front ++ seated ∷ back) table ≡ cond (seated.place.table == table) 1 0 + count_at (front ++ back) table
count_at-with table front back seated =
    let whole = sum_by-append (λ other. cond {A = ℕ} (sits_at table other) 1 0) front (seated ∷ back) in
    let rest = sum_by-append (λ other. cond {A = ℕ} (sits_at table other) 1 0) front back in
    let one = count_by-cons (sits_at table) seated back in
    omega (arith, whole, rest, one)
