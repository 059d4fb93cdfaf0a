-- Choices of a list: things of it, each taken at an index of its own.
use Rattle.std.proofs.Common.{◌≡◌, ℕ, zero, suc, ◌+◌, ◌≤◌, ◌⊎◌, inl, inr, Bool, true, false, cond, eqb, leb, List, [], ◌∷◌, length, refl, sym, ap, ◌∙◌, subst, zero-le, le_trans, le_of_eq, add-le-add, eqb-true, arith}
use Rattle.std.specs.Prelude.{count_by, filter}
use Rattle.std.specs.List.{list_all}
use Rattle.std.proofs.Math.Nat.{le-add_left}
use Rattle.std.proofs.lemmas.Bool.Decides.{nat_tests}
use Rattle.card_choices.proofs.Combined.{combined, choices-cons}
use Rattle.card_choices.proofs.ListOrder.{Upto, upto_through, max-within, max-above_left, max-above_right}
use Rattle.card_choices.specs.Choices.{choices}
use Rattle.rulebook.proofs.Tests.{count_by-cons}
use Rattle.hand_rank.specs.BestHigh.{greater}
use Rattle.hand_rank.proofs.ChangeLaws.{greater-combining}

-- these are things of a list, each taken at an index of its own, in the list's order
abbrev pub IsChoice : {A : Type 0} → List A → List A → Type 0
IsChoice [] xs = Unit {0}
IsChoice (c ∷ cs) [] = ⊥
IsChoice (c ∷ cs) (x ∷ xs) = ((c ≡ x) × IsChoice cs xs) ⊎ IsChoice (c ∷ cs) xs

-- a choice of the others is one of all
pub skip : {A : Type 0} (c : List A) (x : A) (xs : List A) → IsChoice c xs → IsChoice c (x ∷ xs)
skip [] x xs is = tt
skip (c ∷ cs) x xs is = inr is

-- a choice has no more things that pass a test
pub count-choice : {A : Type 0} (p : A → Bool) (c xs : List A) → IsChoice c xs → count_by p c ≤ count_by p xs
count-choice p [] xs is = zero-le
count-choice p (c ∷ cs) [] is = absurd is
count-choice p (c ∷ cs) (x ∷ xs) (inl at) =
    let fewer = count-choice p cs xs at.1 in
    let same : cond (p c) 1 0 ≡ cond (p x) 1 0 = ap (λ y. cond (p y) 1 0) at.0 in
    let more : cond (p c) 1 0 + count_by p cs ≤ cond (p x) 1 0 + count_by p xs = add-le-add (le_of_eq same) fewer in
    rw (count_by-cons p c cs, count_by-cons p x xs) more
count-choice p (c ∷ cs) (x ∷ xs) (inr after) =
    let fewer = count-choice p (c ∷ cs) xs after in
    rw (count_by-cons p x xs) (le_trans fewer (le-add_left (count_by p xs) (cond (p x) 1 0)))

-- what bounds the value of each choice bounds the greatest
pub chosen-within : {A : Type 0} (value : List A → List ℕ) (n : ℕ) (xs : List A) (b : List ℕ)
    → ((c : List A) → IsChoice c xs → length c ≡ n → Upto (value c) b)
    → Upto (combined greater [] value (choices n xs)) b
chosen-within value zero xs b h = max-within (value []) [] b (h [] tt refl) tt
chosen-within value (suc n) [] b h = tt
chosen-within value (suc n) (x ∷ xs) b h =
    subst (λ v. Upto v b) (sym (choices-cons greater [] greater-combining value n x xs))
    (max-within (combined greater [] (λ c. value (x ∷ c)) (choices n xs))
    (combined greater [] value (choices (suc n) xs)) b
    (chosen-within (λ c. value (x ∷ c)) n xs b (λ c is len. h (x ∷ c) (inl (refl, is)) (ap suc len)))
    (chosen-within value (suc n) xs b (λ c is len. h c (skip c x xs is) len)))

-- the greatest value comes no earlier than that of any choice
pub chosen-above : {A : Type 0} (value : List A → List ℕ) (c xs : List A) → IsChoice c xs
    → Upto (value c) (combined greater [] value (choices (length c) xs))
chosen-above value [] xs is = max-above_left (value []) []
chosen-above value (c ∷ cs) [] is = absurd is
chosen-above value (c ∷ cs) (x ∷ xs) (inl at) =
    let here : Upto (value (x ∷ cs)) (combined greater [] (λ d. value (x ∷ d)) (choices (length cs) xs)) =
    chosen-above (λ d. value (x ∷ d)) cs xs at.1 in
    let left = combined greater [] (λ d. value (x ∷ d)) (choices (length cs) xs) in
    let right = combined greater [] value (choices (suc (length cs)) xs) in
    subst (λ v. Upto (value (c ∷ cs)) v) (sym (choices-cons greater [] greater-combining value (length cs) x xs))
    (subst (λ y. Upto (value (y ∷ cs)) (greater left right)) (sym at.0)
    (upto_through (value (x ∷ cs)) left (greater left right) here (max-above_left left right)))
chosen-above value (c ∷ cs) (x ∷ xs) (inr after) =
    let here = chosen-above value (c ∷ cs) xs after in
    let left = combined greater [] (λ d. value (x ∷ d)) (choices (length cs) xs) in
    let right = combined greater [] value (choices (suc (length cs)) xs) in
    subst (λ v. Upto (value (c ∷ cs)) v) (sym (choices-cons greater [] greater-combining value (length cs) x xs))
    (upto_through (value (c ∷ cs)) right (greater left right) here (max-above_right left right))

-- how often a number is in a list
abbrev pub occurs : List ℕ → ℕ → ℕ
occurs needs r = count_by (λ s. eqb s r) needs

-- a number is not in a list, or it is, beside some others
pub taken_out : (r : ℕ) (needs : List ℕ)
    → (occurs needs r ≡ 0) ⊎ ((others : List ℕ) × (length needs ≡ suc (length others)) × ((s : ℕ)
    → occurs needs s ≡ cond (eqb r s) 1 0 + occurs others s))
taken_out r [] = inl refl
taken_out r (need ∷ needs) =
    elim (eqb need r) as (λ b. eqb need r ≡ b
    → (occurs (need ∷ needs) r ≡ 0) ⊎ ((others : List ℕ) × (suc (length needs) ≡ suc (length others)) × ((s : ℕ)
    → occurs (need ∷ needs) s ≡ cond (eqb r s) 1 0 + occurs others s))) [
      | true ↦ λ same. inr (
        needs,
        refl,
        λ s. let is : need ≡ r = eqb-true need r same in
            count_by-cons (λ t. eqb t s) need needs ∙ ap (λ t. cond (eqb t s) 1 0 + occurs needs s) is,
      )
      | false ↦ λ other. elim (taken_out r needs) [
        | inl none ↦ inl (rw (count_by-cons (λ t. eqb t r) need needs, other) (omega arith))
        | inr some ↦ inr (
          need ∷ some.0,
          ap suc some.1,
          λ s.
              let later = some.2 s in
              rw (count_by-cons (λ t. eqb t s) need needs, count_by-cons (λ t. eqb t s) need some.0) (omega arith),
        )
      ]
    ] refl

-- a list is a choice of itself
pub whole : {A : Type 0} (xs : List A) → IsChoice xs xs
whole [] = tt
whole (x ∷ xs) = inl (refl, whole xs)

-- the needed ranks are no more than n, and the things have them: so some n of the things have them
pub choice-with : {A : Type 0} (rank : A → ℕ) (needs : List ℕ) (n : ℕ) (xs : List A) → length needs ≤ n → n ≤ length xs
    → ((r : ℕ) → occurs needs r ≤ count_by (λ x. eqb (rank x) r) xs)
    → (c : List A) × IsChoice c xs × (length c ≡ n) × ((r : ℕ) → occurs needs r ≤ count_by (λ x. eqb (rank x) r) c)
choice-with rank needs n [] few within has = ([], tt, omega arith, has)
choice-with rank [] zero (x ∷ xs) few within has = ([], tt, refl, λ r. zero-le)
choice-with rank (need ∷ needs) zero (x ∷ xs) few within has = absurd (omega arith)
choice-with {A} rank needs (suc n) (x ∷ xs) few within has =
    let have : (r : ℕ) → occurs needs r ≤ cond (eqb (rank x) r) 1 0 + count_by (λ y. eqb (rank y) r) xs =
    λ r. subst (λ m. occurs needs r ≤ m) (count_by-cons (λ y. eqb (rank y) r) x xs) (has r) in
    elim (taken_out (rank x) needs) [
      | inr some ↦
          let later = choice-with rank some.0 n xs (omega arith) (omega arith) (λ r. let at = some.2 r in let all =
          have r in omega arith) in (
            x ∷ later.0,
            inl (refl, later.1),
            ap suc later.2,
            λ r.
                let at = some.2 r in
                let rest = later.3 r in
                rw (count_by-cons (λ y. eqb (rank y) r) x later.0) (omega arith),
          )
      | inl none ↦ elim (leb (suc n) (length xs)) as (λ b. leb (suc n) (length xs) ≡ b
          → (c : List A) × IsChoice c (x ∷ xs) × (length c ≡ suc n) × ((r : ℕ)
          → occurs needs r ≤ count_by (λ y. eqb (rank y) r) c)) [
            | true ↦ λ room.
                let later = choice-with rank needs (suc n) xs few (grind (arith, nat_tests))
                (λ r. elim (eqb (rank x) r) as (λ b. eqb (rank x) r ≡ b
                → occurs needs r ≤ count_by (λ y. eqb (rank y) r) xs) [
                  | true ↦ λ same. let is : rank x ≡ r = eqb-true (rank x) r same in let zero_here : occurs needs r
                      ≡ 0 =
                      subst (λ t. occurs needs t ≡ 0) is none in omega arith
                  | false ↦ λ other. let here : occurs needs r ≤ cond false 1 0 + count_by (λ y. eqb (rank y) r) xs =
                      subst (λ b. occurs needs r ≤ cond b 1 0 + count_by (λ y. eqb (rank y) r) xs) other (have r) in
                      omega arith
                ] refl) in
                (later.0, skip later.0 x xs later.1, later.2, later.3)
            | false ↦ λ full. (x ∷ xs, whole (x ∷ xs), ap suc (grind (arith, nat_tests)), has)
          ] refl
    ]

-- a choice of the things that pass is one of all, and each of it passes
pub choice-filter : {A : Type 0} (p : A → Bool) (c xs : List A) → IsChoice c (filter p xs)
    → IsChoice c xs × (list_all p c ≡ true)
choice-filter p [] xs is = (tt, refl)
choice-filter p (c ∷ cs) [] is = absurd is
choice-filter p (c ∷ cs) (x ∷ xs) is =
    (elim (p x) as (λ b. p x ≡ b → IsChoice (c ∷ cs) (cond b (x ∷ filter p xs) (filter p xs))
    → IsChoice (c ∷ cs) (x ∷ xs) × (list_all p (c ∷ cs) ≡ true)) [
      | true ↦ λ passes here. elim here [
        | inl at ↦
            let later = choice-filter p cs xs at.1 in
            let good : p c ≡ true = ap p at.0 ∙ passes in
            (inl (at.0, later.0), rw good later.1)
        | inr after ↦ let later = choice-filter p (c ∷ cs) xs after in (inr later.0, later.1)
      ]
      | false ↦ λ fails after. let later = choice-filter p (c ∷ cs) xs after in (inr later.0, later.1)
    ]) refl is
