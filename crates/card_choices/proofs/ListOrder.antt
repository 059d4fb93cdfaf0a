-- Lists of numbers in order: the first number that differs decides, and else the shorter list comes first.
use Rattle.std.proofs.Common.{◌≡◌, ℕ, ◌<◌, ◌⊎◌, inl, inr, true, false, eqb, ltb, List, [], ◌∷◌, refl, sym, ap₂, ◌∙◌, subst, arith}
use Rattle.std.proofs.lemmas.Bool.{cases_order}
use Rattle.std.proofs.lemmas.Bool.Decides.{nat_tests}
use Rattle.std.specs.Ordering.{nat_cmp, ord_max, ord_min, is_lt}
use Rattle.std.specs.Cmp.Lexicographic.{slice_cmp}

-- the first list comes no later than the second
abbrev pub Upto : List ℕ → List ℕ → Type 0
Upto [] ys = Unit {0}
Upto (x ∷ xs) [] = ⊥
Upto (x ∷ xs) (y ∷ ys) = (x < y) ⊎ ((x ≡ y) × Upto xs ys)

-- every list comes no later than itself
pub upto_itself : (xs : List ℕ) → Upto xs xs
upto_itself [] = tt
upto_itself (x ∷ xs) = inr (refl, upto_itself xs)

-- a list that comes no later than a second comes no later than any list that the second comes no later than
pub upto_through : (xs ys zs : List ℕ) → Upto xs ys → Upto ys zs → Upto xs zs
upto_through [] ys zs one other = tt
upto_through (x ∷ xs) [] zs one other = absurd one
upto_through (x ∷ xs) (y ∷ ys) [] one other = absurd other
upto_through (x ∷ xs) (y ∷ ys) (z ∷ zs) (inl less) (inl more) = inl (omega arith)
upto_through (x ∷ xs) (y ∷ ys) (z ∷ zs) (inl less) (inr same) = let e = same.0 in inl (omega arith)
upto_through (x ∷ xs) (y ∷ ys) (z ∷ zs) (inr same) (inl more) = let e = same.0 in inl (omega arith)
upto_through (x ∷ xs) (y ∷ ys) (z ∷ zs) (inr same) (inr also) =
    inr (same.0 ∙ also.0, upto_through xs ys zs same.1 also.1)

-- two lists that come no later than each other are the same
pub upto_both : (xs ys : List ℕ) → Upto xs ys → Upto ys xs → xs ≡ ys
upto_both [] [] one other = refl
upto_both [] (y ∷ ys) one other = absurd other
upto_both (x ∷ xs) [] one other = absurd one
upto_both (x ∷ xs) (y ∷ ys) (inl less) (inl more) = absurd (omega arith)
upto_both (x ∷ xs) (y ∷ ys) (inl less) (inr same) = let e = same.0 in absurd (omega arith)
upto_both (x ∷ xs) (y ∷ ys) (inr same) (inl more) = let e = same.0 in absurd (omega arith)
upto_both (x ∷ xs) (y ∷ ys) (inr same) (inr also) = ap₂ (λ z zs. z ∷ zs) same.0 (upto_both xs ys same.1 also.1)

pub upto_either : (xs ys : List ℕ) → Upto xs ys ⊎ Upto ys xs
upto_either [] ys = inl tt
upto_either (x ∷ xs) [] = inr tt
upto_either (x ∷ xs) (y ∷ ys) =
    elim (cases_order x y) [
      | inl same ↦ elim (upto_either xs ys) [
        | inl one ↦ inl (inr (same, one))
        | inr other ↦ inr (inr (sym same, other))
      ]
      | inr apart ↦ elim apart [
        | inl less ↦ inl (inl less)
        | inr more ↦ inr (inl more)
      ]
    ]

-- a list that comes no later is not less the other way
upto-not_lt : (xs ys : List ℕ) → Upto xs ys → is_lt (slice_cmp nat_cmp ys xs) ≡ false
upto-not_lt [] [] is = refl
upto-not_lt [] (y ∷ ys) is = refl
upto-not_lt (x ∷ xs) [] is = absurd is
upto-not_lt (x ∷ xs) (y ∷ ys) (inl less) =
    let one : ltb y x ≡ false = grind (arith, nat_tests) in
    let other : eqb y x ≡ false = grind (arith, nat_tests) in
    rw (one, other) refl
upto-not_lt (x ∷ xs) (y ∷ ys) (inr same) =
    let e : x ≡ y = same.0 in
    let one : ltb y x ≡ false = grind (arith, nat_tests) in
    let other : eqb y x ≡ true = grind (arith, nat_tests) in
    rw (one, other) (upto-not_lt xs ys same.1)

-- a list that comes no later is less, or the same
pub upto-lt : (xs ys : List ℕ) → Upto xs ys → (is_lt (slice_cmp nat_cmp xs ys) ≡ true) ⊎ (xs ≡ ys)
upto-lt [] [] is = inr refl
upto-lt [] (y ∷ ys) is = inl refl
upto-lt (x ∷ xs) [] is = absurd is
upto-lt (x ∷ xs) (y ∷ ys) (inl less) =
    let one : ltb x y ≡ true = grind (arith, nat_tests) in
    inl (rw one refl)
upto-lt (x ∷ xs) (y ∷ ys) (inr same) =
    let e : x ≡ y = same.0 in
    let one : ltb x y ≡ false = grind (arith, nat_tests) in
    let other : eqb x y ≡ true = grind (arith, nat_tests) in
    elim (upto-lt xs ys same.1) [
      | inl less ↦ inl (rw (one, other) less)
      | inr all ↦ inr (ap₂ (λ z zs. z ∷ zs) e all)
    ]

-- the greater of two lists
pub max_upper : (xs ys : List ℕ) → Upto xs ys → ord_max (slice_cmp nat_cmp) xs ys ≡ ys
max_upper xs ys is = let lower = upto-not_lt xs ys is in rw lower refl

-- the greater of two lists is the first, if the second comes no later
pub max_lower : (xs ys : List ℕ) → Upto ys xs → ord_max (slice_cmp nat_cmp) xs ys ≡ xs
max_lower xs ys is =
    elim (upto-lt ys xs is) [
      | inl less ↦ rw less refl
      | inr same ↦ max_upper xs ys (subst (λ zs. Upto xs zs) (sym same) (upto_itself xs)) ∙ same
    ]

-- the lesser of two lists
pub min_upper : (xs ys : List ℕ) → Upto xs ys → ord_min (slice_cmp nat_cmp) xs ys ≡ xs
min_upper xs ys is = let lower = upto-not_lt xs ys is in rw lower refl

pub min_lower : (xs ys : List ℕ) → Upto ys xs → ord_min (slice_cmp nat_cmp) xs ys ≡ ys
min_lower xs ys is =
    elim (upto-lt ys xs is) [
      | inl less ↦ rw less refl
      | inr same ↦ min_upper xs ys (subst (λ zs. Upto xs zs) (sym same) (upto_itself xs)) ∙ sym same
    ]

-- the first of two lists comes no later than the greater of them
pub max-above_left : (xs ys : List ℕ) → Upto xs (ord_max (slice_cmp nat_cmp) xs ys)
max-above_left xs ys =
    elim (upto_either xs ys) [
      | inl up ↦ subst (λ zs. Upto xs zs) (sym (max_upper xs ys up)) up
      | inr down ↦ subst (λ zs. Upto xs zs) (sym (max_lower xs ys down)) (upto_itself xs)
    ]

-- the second of two lists comes no later than the greater of them
pub max-above_right : (xs ys : List ℕ) → Upto ys (ord_max (slice_cmp nat_cmp) xs ys)
max-above_right xs ys =
    elim (upto_either xs ys) [
      | inl up ↦ subst (λ zs. Upto ys zs) (sym (max_upper xs ys up)) (upto_itself ys)
      | inr down ↦ subst (λ zs. Upto ys zs) (sym (max_lower xs ys down)) down
    ]

-- if two lists come no later than a third, then the greater of them comes no later than it
pub max-within : (xs ys zs : List ℕ) → Upto xs zs → Upto ys zs → Upto (ord_max (slice_cmp nat_cmp) xs ys) zs
max-within xs ys zs one other =
    elim (upto_either xs ys) [
      | inl up ↦ subst (λ m. Upto m zs) (sym (max_upper xs ys up)) other
      | inr down ↦ subst (λ m. Upto m zs) (sym (max_lower xs ys down)) one
    ]

-- the lesser of two lists comes no later than the first of them
pub min-below_left : (xs ys : List ℕ) → Upto (ord_min (slice_cmp nat_cmp) xs ys) xs
min-below_left xs ys =
    elim (upto_either xs ys) [
      | inl up ↦ subst (λ zs. Upto zs xs) (sym (min_upper xs ys up)) (upto_itself xs)
      | inr down ↦ subst (λ zs. Upto zs xs) (sym (min_lower xs ys down)) down
    ]

-- the lesser of two lists comes no later than the second of them
pub min-below_right : (xs ys : List ℕ) → Upto (ord_min (slice_cmp nat_cmp) xs ys) ys
min-below_right xs ys =
    elim (upto_either xs ys) [
      | inl up ↦ subst (λ zs. Upto zs ys) (sym (min_upper xs ys up)) up
      | inr down ↦ subst (λ zs. Upto zs ys) (sym (min_lower xs ys down)) (upto_itself ys)
    ]

-- a list that comes no later than each of two others comes no later than the lesser of them
pub min-within : (xs ys zs : List ℕ) → Upto zs xs → Upto zs ys → Upto zs (ord_min (slice_cmp nat_cmp) xs ys)
min-within xs ys zs one other =
    elim (upto_either xs ys) [
      | inl up ↦ subst (λ m. Upto zs m) (sym (min_upper xs ys up)) one
      | inr down ↦ subst (λ m. Upto zs m) (sym (min_lower xs ys down)) other
    ]

-- of three lists, the greatest does not depend on the two that are compared first
pub max_assoc : (xs ys zs : List ℕ)
    → ord_max (slice_cmp nat_cmp) (ord_max (slice_cmp nat_cmp) xs ys) zs ≡ ord_max (slice_cmp nat_cmp) xs
    (ord_max (slice_cmp nat_cmp) ys zs)
max_assoc xs ys zs =
    let left = ord_max (slice_cmp nat_cmp) xs ys in
    let right = ord_max (slice_cmp nat_cmp) ys zs in
    let one = ord_max (slice_cmp nat_cmp) left zs in
    let other = ord_max (slice_cmp nat_cmp) xs right in
    upto_both one other
    (max-within left zs other
    (max-within xs ys other (max-above_left xs right)
    (upto_through ys right other (max-above_left ys zs) (max-above_right xs right)))
    (upto_through zs right other (max-above_right ys zs) (max-above_right xs right)))
    (max-within xs right one
    (upto_through xs left one (max-above_left xs ys) (max-above_left left zs))
    (max-within ys zs one (upto_through ys left one (max-above_right xs ys) (max-above_left left zs))
    (max-above_right left zs)))

-- of three lists, the least does not depend on the two that are compared first
pub min_assoc : (xs ys zs : List ℕ)
    → ord_min (slice_cmp nat_cmp) (ord_min (slice_cmp nat_cmp) xs ys) zs ≡ ord_min (slice_cmp nat_cmp) xs
    (ord_min (slice_cmp nat_cmp) ys zs)
min_assoc xs ys zs =
    let left = ord_min (slice_cmp nat_cmp) xs ys in
    let right = ord_min (slice_cmp nat_cmp) ys zs in
    let one = ord_min (slice_cmp nat_cmp) left zs in
    let other = ord_min (slice_cmp nat_cmp) xs right in
    upto_both one other
    (min-within xs right one
    (upto_through one left xs (min-below_left left zs) (min-below_left xs ys))
    (min-within ys zs one (upto_through one left ys (min-below_left left zs) (min-below_right xs ys))
    (min-below_right left zs)))
    (min-within left zs other
    (min-within xs ys other (min-below_left xs right)
    (upto_through other right ys (min-below_right xs right) (min-below_left ys zs)))
    (upto_through other right zs (min-below_right xs right) (min-below_right ys zs)))
