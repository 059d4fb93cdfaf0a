-- Lists read by `get_elem?`: sums over them, and what holds of each element after one is replaced.
use Rattle.std.proofs.Common.{◌≡◌, ◌≢◌, ◌⊎◌, ℕ, zero, suc, ◌+◌, ◌<◌, ◌≤◌, List, [], ◌∷◌, ◌++◌, length, set, refl, sym, ap, subst, inl, inr, ⊎_elim, arith, sum_by, All, cond, eqb, eq-eqb, ne_eqb}
use Rattle.std.proofs.lemmas.List.Sums.{sum_by-cons}
use mathlib.Core.Option.{some, some-injective, some-ne-none}
use lib.ListN.{get_elem?}
use Rattle.atomic_table.proofs.Lists.{at_set}
use Rattle.history_lock.specs.Views.{Each, AtLeastOne}

-- no bell was rung yet
abbrev pub no_rings : List ℕ
no_rings = 0 ∷ 0 ∷ 0 ∷ 0 ∷ 0 ∷ 0 ∷ 0 ∷ 0 ∷ 0 ∷ 0 ∷ 0 ∷ 0 ∷ 0 ∷ 0 ∷ 0 ∷ 0 ∷ 0 ∷ []

-- a write behind the first three words leaves these
pub rung : (words : List ℕ) (a b c x i : ℕ) (bells : List ℕ) → words ≡ a ∷ b ∷ c ∷ bells → 3 ≤ i
    → (more : List ℕ) × (set words i x ≡ a ∷ b ∷ c ∷ more)
rung words a b c x zero bells is le = absurd (omega arith)
rung words a b c x (suc zero) bells is le = absurd (omega arith)
rung words a b c x (suc (suc zero)) bells is le = absurd (omega arith)
rung words a b c x (suc (suc (suc k))) bells is le =
    (set bells k x, ap (λ ws. set ws (suc (suc (suc k))) x) is)

-- the function with another value at one index
abbrev pub put : (ℕ → ℕ) → ℕ → ℕ → ℕ → ℕ
put f i x j = cond (eqb j i) x (f j)

-- at the index where a value was put, the function has that value
pub put_here : (f : ℕ → ℕ) (i x j : ℕ) → j ≡ i → put f i x j ≡ x
put_here f i x j e = ap (λ b. cond b x (f j)) (eq-eqb j i e)

-- at every other index the function has the value that it had
pub put_else : (f : ℕ → ℕ) (i x j : ℕ) → j ≢ i → put f i x j ≡ f j
put_else f i x j ne = ap (λ b. cond b x (f j)) (ne_eqb j i ne)

-- the function with one of its values turned to another
abbrev pub turn : (ℕ → ℕ) → ℕ → ℕ → ℕ → ℕ
turn f a b j = cond (eqb (f j) a) b (f j)

-- where the function had the value that is turned, it has the new one
pub turn_here : (f : ℕ → ℕ) (a b j : ℕ) → f j ≡ a → turn f a b j ≡ b
turn_here f a b j e = ap (λ t. cond t b (f j)) (eq-eqb (f j) a e)

-- where the function had any other value, it keeps it
pub turn_else : (f : ℕ → ℕ) (a b j : ℕ) → f j ≢ a → turn f a b j ≡ f j
turn_else f a b j ne = ap (λ t. cond t b (f j)) (ne_eqb (f j) a ne)

module _ {A : Type 0} where
  -- an element that is there is at an index below the length
  pub within : (l : List A) (i : ℕ) (a : A) → get_elem? l i ≡ some a → i < length l
  within [] i a e = absurd (some-ne-none a (sym e))
  within (x ∷ xs) zero a e = omega arith
  within (x ∷ xs) (suc i) a e = let h = within xs i a e in omega arith

  -- what holds of the new element, and held of all others, holds of each after one is replaced
  pub each_set : (K : ℕ → A → Type 0) (l : List A) (id : ℕ) (w : A) → K id w
      → ((j : ℕ) (a : A) → j ≢ id → get_elem? l j ≡ some a → K j a)
      → (j : ℕ) (a : A) → get_elem? (set l id w) j ≡ some a → K j a
  each_set K l id w mine others j a e =
      ⊎_elim (λ (t : (j ≡ id) × (w ≡ a)). subst (λ (x : ℕ × A). K x.0 x.1) (λ i. (sym t.0 i, t.1 i)) mine)
      (λ (t : (j ≢ id) × (get_elem? l j ≡ some a)). others j a t.0 t.1) (at_set l id j w a e)

  -- an element behind the others is at the old length
  pub at_push : (l : List A) (w a : A) (j : ℕ) → get_elem? (l ++ w ∷ []) j ≡ some a
      → (get_elem? l j ≡ some a) ⊎ ((j ≡ length l) × (w ≡ a))
  at_push [] w a zero e = inr (refl, some-injective w a e)
  at_push [] w a (suc j) e = absurd (some-ne-none a (sym e))
  at_push (x ∷ xs) w a zero e = inl e
  at_push (x ∷ xs) w a (suc j) e = ⊎_elim (λ h. inl h) (λ (t : (j ≡ length xs) × (w ≡ a)). inr (ap suc t.0, t.1))
      (at_push xs w a j e)

  -- where one element is replaced, the sum loses the part of the old one and gains that of the new one
  pub sum_by-set : (f : A → ℕ) (l : List A) (i : ℕ) (a b : A) → get_elem? l i ≡ some a
      → sum_by f (set l i b) + f a ≡ sum_by f l + f b
  sum_by-set f [] i a b e = absurd (some-ne-none a (sym e))
  sum_by-set f (x ∷ xs) zero a b e = let s : x ≡ a = some-injective x a e in
      omega (arith, sum_by-cons f x xs, sum_by-cons f b xs, ap f s)
  sum_by-set f (x ∷ xs) (suc i) a b e =
      omega (arith, sum_by-cons f x xs, sum_by-cons f x (set xs i b), sum_by-set f xs i a b e)

  pub one_le_sum_by : (f : A → ℕ) (l : List A) (i : ℕ) (a : A) → get_elem? l i ≡ some a → f a ≤ sum_by f l
  one_le_sum_by f [] i a e = absurd (some-ne-none a (sym e))
  one_le_sum_by f (x ∷ xs) zero a e = omega (arith, sum_by-cons f x xs, ap f (some-injective x a e))
  one_le_sum_by f (x ∷ xs) (suc i) a e = omega (arith, sum_by-cons f x xs, one_le_sum_by f xs i a e)

  -- the parts of two elements at different indices are together at most the sum
  pub two_le_sum_by : (f : A → ℕ) (l : List A) (i j : ℕ) (a b : A) → i ≢ j → get_elem? l i ≡ some a
      → get_elem? l j ≡ some b → f a + f b ≤ sum_by f l
  two_le_sum_by f [] i j a b ne e d = absurd (some-ne-none a (sym e))
  two_le_sum_by f (x ∷ xs) zero zero a b ne e d = absurd (ne refl)
  two_le_sum_by f (x ∷ xs) zero (suc j) a b ne e d =
      omega (arith, sum_by-cons f x xs, ap f (some-injective x a e), one_le_sum_by f xs j b d)
  two_le_sum_by f (x ∷ xs) (suc i) zero a b ne e d =
      omega (arith, sum_by-cons f x xs, ap f (some-injective x b d), one_le_sum_by f xs i a e)
  two_le_sum_by f (x ∷ xs) (suc i) (suc j) a b ne e d =
      omega (arith, sum_by-cons f x xs, two_le_sum_by f xs i j a b (λ h. ne (ap suc h)) e d)

  pub sum_by_le : (f h : A → ℕ) (l : List A) → ((j : ℕ) (a : A) → get_elem? l j ≡ some a → f a ≤ h a)
      → sum_by f l ≤ sum_by h l
  sum_by_le f h [] le = omega arith
  sum_by_le f h (x ∷ xs) le =
      omega (arith, sum_by-cons f x xs, sum_by-cons h x xs, le 0 x refl, sum_by_le f h xs (λ j a e. le (suc j) a e))

  -- one sum is less than the other where one part is
  pub sum_by_lt : (f h : A → ℕ) (l : List A) (i : ℕ) (b : A) → ((j : ℕ) (a : A) → get_elem? l j ≡ some a → f a ≤ h a)
      → get_elem? l i ≡ some b → f b < h b → sum_by f l < sum_by h l
  sum_by_lt f h [] i b le e lt = absurd (some-ne-none b (sym e))
  sum_by_lt f h (x ∷ xs) zero b le e lt = let s : x ≡ b = some-injective x b e in
      omega (
        arith,
        sum_by-cons f x xs,
        sum_by-cons h x xs,
        ap f s,
        ap h s,
        lt,
        sum_by_le f h xs
            (λ j a d. le (suc j) a d),
      )
  sum_by_lt f h (x ∷ xs) (suc i) b le e lt =
      omega (
        arith,
        sum_by-cons f x xs,
        sum_by-cons h x xs,
        le 0 x refl,
        sum_by_lt f h xs i b
            (λ j a d. le (suc j) a d) e lt,
      )

  -- what holds of each element of two lists holds of each element of the two joined
  pub each_append : (P : A → Type 0) (xs ys : List A) → Each P xs → Each P ys → Each P (xs ++ ys)
  each_append P [] ys p q = q
  each_append P (x ∷ xs) ys p q = (p.0, each_append P xs ys p.1 q)

  -- what follows from a property holds of each element where the property holds of each
  pub each_map : (P Q : A → Type 0) (xs : List A) → ((x : A) → P x → Q x) → Each P xs → Each Q xs
  each_map P Q [] f p = tt
  each_map P Q (x ∷ xs) f p = (f x p.0, each_map P Q xs f p.1)

  -- what follows from two properties together holds of each element where both hold of each
  pub each_both : (P Q R : A → Type 0) (xs : List A) → ((x : A) → P x → Q x → R x) → Each P xs → Each Q xs → Each R xs
  each_both P Q R [] f p q = tt
  each_both P Q R (x ∷ xs) f p q = (f x p.0 q.0, each_both P Q R xs f p.1 q.1)

  -- what holds of at least one element of the first list holds of at least one of the two joined
  pub least_append_left : (P : A → Type 0) (xs ys : List A) → AtLeastOne P xs → AtLeastOne P (xs ++ ys)
  least_append_left P [] ys p = absurd p
  least_append_left P (x ∷ xs) ys p = ⊎_elim (λ h. inl h) (λ h. inr (least_append_left P xs ys h)) p

  -- what holds of at least one element of the second list holds of at least one of the two joined
  pub least_append_right : (P : A → Type 0) (xs ys : List A) → AtLeastOne P ys → AtLeastOne P (xs ++ ys)
  least_append_right P [] ys p = p
  least_append_right P (x ∷ xs) ys p = inr (least_append_right P xs ys p)

  -- what holds at every index of a list holds of each of its elements
  pub each_of_all : (P : A → Type 0) (xs : List A) → All P xs → Each P xs
  each_of_all P [] p = tt
  each_of_all P (x ∷ xs) p = (p 0 x (omega arith), each_of_all P xs (λ k d h. p (suc k) d (omega arith)))

  -- what holds of each element of a list holds at every index of it
  pub all_of_each : (P : A → Type 0) (xs : List A) → Each P xs → All P xs
  all_of_each P [] p k d h = absurd (omega arith)
  all_of_each P (x ∷ xs) p zero d h = p.0
  all_of_each P (x ∷ xs) p (suc k) d h = all_of_each P xs p.1 k d (omega arith)
