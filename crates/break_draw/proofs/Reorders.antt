-- A list is another in some order exactly where each item comes as often in both.
use Rattle.std.proofs.Common.{◌≡◌, ◌∙◌, refl, sym, ap, subst, ℕ, ◌+◌, ◌<◌, ◌==◌, Bool, true, false, cond, List, [], ◌∷◌, ◌++◌, length, length-append, inl, inr, arith}
use Rattle.std.specs.Prelude.{IsPermutation, IsTrue, ◌↔◌, count_by}
use Rattle.std.specs.Str.{bytes_eq}
use Rattle.std.proofs.lemmas.Slice.Eq.{bytes_eq-Decides}
use Rattle.std.specs.List.{list_all, list_any}
use Rattle.std.proofs.lemmas.Bool.{eq-eqb, eqb-true, or_cases, or_left, or_right, and_parts, and_from}
use Rattle.std.proofs.lemmas.List.Sums.{sum_by-append}
use Rattle.std.proofs.lemmas.List.Sorted.{IsPermutation-refl, IsPermutation-sym, IsPermutation-cons, IsPermutation-middle, IsPermutation-trans, length_permutation, sum_by-IsPermutation}
use Rattle.rulebook.proofs.Tests.{count_by-cons, list_all-always}
use Rattle.seat_book.proofs.PlaceOrder.{same_place-itself}
use Rattle.seat_book.specs.declared.place.Place.{Place}
use Rattle.seat_book.specs.Seatings.{Seating}
use Rattle.balance_rule.specs.Filling.{is_same_place, names_at}
use Rattle.break_draw.specs.Draws.{come_as_often, is_reordered, is_draw, IsDraw}

-- a list with an item that passes a test is split there
record Split {A : Type 0} (test : A → Bool) (xs : List A) : Type 0 where
  front : List A
  item : A
  back : List A
  is : xs ≡ front ++ item ∷ back
  passes : test item ≡ true

split-at : {A : Type 0} (test : A → Bool) (xs : List A) → 0 < count_by test xs → Split test xs
split-at test [] some = absurd (omega arith)
split-at test (x ∷ xs) some = by_test (test x) refl (split-at test xs)
  where
    by_test : (b : Bool) → test x ≡ b → (0 < count_by test xs → Split test xs) → Split test (x ∷ xs)
    by_test true here later = record { front = []; item = x; back = xs; is = refl; passes = here }
    by_test false here later =
        let counted = count_by-cons test x xs in
        let none : cond {A = ℕ} (test x) 1 0 ≡ 0 = ap (λ b. cond {A = ℕ} b 1 0) here in
        let rest = later (omega (arith, counted, none, some)) in
        record {
          front = x ∷ rest.front;
          item = rest.item;
          back = rest.back;
          is = ap (λ more. x ∷ more) rest.is;
          passes = rest.passes;
        }

module _ {A : Type 0} (same : A → A → Bool) (decides : (a b : A) → same a b ≡ true → a ≡ b)
    (itself : (a : A) → same a a ≡ true) where
  -- what passes for each item of a list passes for what is the same as one
  for-any : (test : A → Bool) (xs : List A) (z : A) → list_all test xs ≡ true → list_any (same z) xs ≡ true
      → test z ≡ true
  for-any test [] z all any = absurd cc
  for-any test (x ∷ xs) z all any =
      let parts = and_parts (test x) (list_all test xs) all in
      elim (or_cases (same z x) (list_any (same z) xs) any) [
        | inl here ↦ subst (λ a. test a ≡ true) (sym (decides z x here)) parts.0
        | inr later ↦ for-any test xs z parts.1 later
      ]

  count-between : (test : A → Bool) (front back : List A) (x : A)
      → count_by test (front ++ x ∷ back) ≡ cond (test x) 1 0 + count_by test (front ++ back)
  count-between test front back x =
      let whole = sum_by-append (λ y. cond {A = ℕ} (test y) 1 0) front (x ∷ back) in
      let rest = sum_by-append (λ y. cond {A = ℕ} (test y) 1 0) front back in
      let one = count_by-cons test x back in
      omega (arith, whole, rest, one)

  permutes : (xs ys : List A) → length xs ≡ length ys
      → ((z : A) → list_any (same z) xs ≡ true → count_by (same z) xs ≡ count_by (same z) ys) → IsPermutation xs ys
  permutes [] [] len often = IsPermutation-refl []
  permutes [] (y ∷ ys) len often = absurd (omega (arith, len))
  permutes (x ∷ xs) ys len often =
      let counted = count_by-cons (same x) x xs in
      let one : cond {A = ℕ} (same x x) 1 0 ≡ 1 = ap (λ b. cond {A = ℕ} b 1 0) (itself x) in
      let equal = often x (or_left (same x x) (list_any (same x) xs) (itself x)) in
      let split = split-at (same x) ys (omega (arith, counted, one, equal)) in
      let is_x : x ≡ split.item = decides x split.item split.passes in
      let whole = ap length split.is ∙ length-append split.front (split.item ∷ split.back) in
      let rest = length-append split.front split.back in
      let others = permutes xs (split.front ++ split.back) (omega (arith, len, whole, rest)) (λ z any.
      let both = often z (or_right (same z x) (list_any (same z) xs) any) in
      let left = count_by-cons (same z) x xs in
      let right = ap (count_by (same z)) split.is ∙ count-between (same z) split.front split.back split.item in
      let heads : cond {A = ℕ} (same z x) 1 0 ≡ cond (same z split.item) 1 0 =
      ap (λ a. cond {A = ℕ} (same z a) 1 0) is_x in
      omega (arith, both, left, right, heads)) in
      let middle = IsPermutation-sym (split.front ++ x ∷ split.back) (x ∷ (split.front ++ split.back))
      (IsPermutation-middle split.front x split.back) in
      let joined = IsPermutation-trans (x ∷ xs) (x ∷ (split.front ++ split.back)) (split.front ++ x ∷ split.back)
      (IsPermutation-cons x xs (split.front ++ split.back) others) middle in
      subst (IsPermutation (x ∷ xs)) (ap (λ a. split.front ++ a ∷ split.back) is_x ∙ sym split.is) joined

  -- What passes the test is the other in some order.
  pub reordered-permutes : (xs ys : List A) → is_reordered same xs ys ≡ true → IsPermutation xs ys
  reordered-permutes xs ys is =
      let parts = and_parts (length xs == length ys) (come_as_often same xs ys) is in
      permutes xs ys (eqb-true (length xs) (length ys) parts.0) (λ z any. eqb-true (count_by (same z) xs)
      (count_by (same z) ys) (for-any (λ item. count_by (same item) xs == count_by (same item) ys) xs z parts.1 any))

  -- What is the other in some order passes the test.
  pub permutes-reordered : (xs ys : List A) → IsPermutation xs ys → is_reordered same xs ys ≡ true
  permutes-reordered xs ys is = and_from (length xs == length ys) (come_as_often same xs ys)
      (eq-eqb (length xs) (length ys) (sym (length_permutation xs ys is)))
      (list_all-always (λ item. count_by (same item) xs == count_by (same item) ys) xs (λ item.
      eq-eqb (count_by (same item) xs) (count_by (same item) ys)
      (sym (sum_by-IsPermutation (λ y. cond {A = ℕ} (same item y) 1 0) xs ys is))))

same_place-decides : (a b : Place) → is_same_place a b ≡ true → a ≡ b
same_place-decides a b is =
    let parts = and_parts (a.table == b.table) (a.seat == b.seat) is in
    let table = eqb-true a.table b.table parts.0 in
    let seat = eqb-true a.seat b.seat parts.1 in
    λ i. record { table = table i; seat = seat i }

-- A draw passes the test exactly where it is right.
pub draw-exact : (seating : Seating) (table : ℕ) (fill seats : List Place) (names : List (List ℕ)) (result : Bool)
    → result ≡ is_draw seating table fill seats names → IsTrue result ↔ IsDraw seating table fill seats names
draw-exact seating table fill seats names result is = (
  (λ passes.
      let parts = and_parts (is_reordered is_same_place fill seats)
      (is_reordered bytes_eq names (names_at seating table))
      (sym is ∙ passes) in
      record {
        places = reordered-permutes is_same_place same_place-decides same_place-itself fill seats parts.0;
        players = IsPermutation-sym names (names_at seating table) (reordered-permutes bytes_eq
            (λ a b. (bytes_eq-Decides a b).0) (λ a. (bytes_eq-Decides a a).1 refl) names
            (names_at seating table) parts.1);
      }),
  (λ right. is ∙ and_from (is_reordered is_same_place fill seats) (is_reordered bytes_eq names (names_at seating table))
      (permutes-reordered is_same_place same_place-decides same_place-itself fill seats right.places)
      (permutes-reordered bytes_eq (λ a b. (bytes_eq-Decides a b).0) (λ a. (bytes_eq-Decides a a).1 refl) names
      (names_at seating table) (IsPermutation-sym (names_at seating table) names right.players))),
)

-- What are the places and the names in some order passes the test.
pub draw-right : (seating : Seating) (table : ℕ) (fill seats : List Place) (before names : List (List ℕ))
    → before ≡ names_at seating table → IsPermutation fill seats → IsPermutation before names
    → is_draw seating table fill seats names ≡ true
draw-right seating table fill seats before names is places players =
    let right : IsDraw seating table fill seats names = record {
      places = places;
      players = subst (λ (all : List (List ℕ)). IsPermutation all names) is players;
    } in
    (draw-exact seating table fill seats names (is_draw seating table fill seats names) refl).1 right
