-- What the items of a list weigh together.
use Rattle.std.proofs.Common.{◌≡◌, ◌∙◌, refl, sym, ap, ℕ, ◌+◌, ◌*◌, ◌≤◌, ◌==◌, Bool, true, false, cond, List, [], ◌∷◌, ◌++◌, arith, map}
use Rattle.std.specs.Prelude.{◌||◌, count_by, sum_by, Option, Some, None}
use Rattle.std.specs.List.{AllByRecursion, cons_option, filter_map, flat_map, list_any}
use Rattle.history_lock.specs.Entries.{entries_by}
use Rattle.std.proofs.lemmas.List.Sums.{sum_by-cons}

-- one where it is so, and else none
abbrev pub one_if : Bool → ℕ
one_if true = 1
one_if false = 0

module _ {A : Type 0} where
  -- the sum of what each item weighs
  abbrev pub weigh : (A → ℕ) → List A → ℕ
  weigh f [] = 0
  weigh f (x ∷ xs) = f x + weigh f xs

  -- Two lists weigh together what they weigh apart.
  pub weigh-append : (f : A → ℕ) (xs ys : List A) → weigh f (xs ++ ys) ≡ weigh f xs + weigh f ys
  weigh-append f [] ys = omega arith
  weigh-append f (x ∷ xs) ys = let rest = weigh-append f xs ys in omega (arith, rest)

  -- A front weighs no more than the whole.
  pub weigh-front : (f : A → ℕ) (xs ys : List A) → weigh f xs ≤ weigh f (xs ++ ys)
  weigh-front f xs ys = omega (arith, weigh-append f xs ys)

  -- Where each item weighs no more, all weigh no more.
  pub weigh-le : (f g : A → ℕ) → ((x : A) → f x ≤ g x) → (xs : List A) → weigh f xs ≤ weigh g xs
  weigh-le f g less [] = omega arith
  weigh-le f g less (x ∷ xs) = let here = less x in let rest = weigh-le f g less xs in omega (arith, here, rest)

  -- Where nothing weighs anything, nothing does together.
  pub weigh-none : (f : A → ℕ) → ((x : A) → f x ≡ 0) → (xs : List A) → weigh f xs ≡ 0
  weigh-none f none [] = refl
  weigh-none f none (x ∷ xs) = let here = none x in let rest = weigh-none f none xs in omega (arith, here, rest)

  -- What items weigh of two kinds is the sum of both.
  pub weigh-both : (f g : A → ℕ) (xs : List A) → weigh (λ x. f x + g x) xs ≡ weigh f xs + weigh g xs
  weigh-both f g [] = refl
  weigh-both f g (x ∷ xs) = let rest = weigh-both f g xs in omega (arith, rest)

  -- So many pass a test as items weigh one each.
  pub count-weigh : (test : A → Bool) (xs : List A) → count_by test xs ≡ weigh (λ x. one_if (test x)) xs
  count-weigh test [] = refl
  count-weigh test (x ∷ xs) =
      sum_by-cons (λ x. cond (test x) 1 0) x xs
      ∙ ((λ i. same-one (test x) i + sum_by (λ x. cond (test x) 1 0) xs)
      ∙ ap (λ (n : ℕ). one_if (test x) + n) (count-weigh test xs))
    where
      same-one : (so : Bool) → cond so 1 0 ≡ one_if so
      same-one true = refl
      same-one false = refl

-- what is weighed of what is there, if it is
abbrev pub weight_of : {B : Type 0} → (B → ℕ) → Option B → ℕ
weight_of f None = 0
weight_of f (Some y) = f y

module _ {A B : Type 0} where
  -- what a list made of another weighs
  pub weigh-map : (f : B → ℕ) (make : A → B) (xs : List A) → weigh f (map make xs) ≡ weigh (λ x. f (make x)) xs
  weigh-map f make [] = refl
  weigh-map f make (x ∷ xs) = ap (λ (n : ℕ). f (make x) + n) (weigh-map f make xs)

  pub weigh-flat : (f : B → ℕ) (make : A → List B) (xs : List A)
      → weigh f (flat_map make xs) ≡ weigh (λ x. weigh f (make x)) xs
  weigh-flat f make [] = refl
  weigh-flat f make (x ∷ xs) =
      weigh-append f (make x) (flat_map make xs)
      ∙ ap (λ (n : ℕ). weigh f (make x) + n) (weigh-flat f make xs)

  -- Sums over two lists may change places.
  pub weigh-swap : (f : A → B → ℕ) (xs : List A) (ys : List B)
      → weigh (λ x. weigh (f x) ys) xs ≡ weigh (λ y. weigh (λ x. f x y) xs) ys
  weigh-swap f [] ys = sym (weigh-none (λ (y : B). 0) (λ y. refl) ys)
  weigh-swap f (x ∷ xs) ys =
      ap (λ (n : ℕ). weigh (f x) ys + n) (weigh-swap f xs ys)
      ∙ sym (weigh-both (f x) (λ y. weigh (λ x. f x y) xs) ys)

  pub weigh-filter_map : (f : B → ℕ) (make : A → Option B) (xs : List A)
      → weigh f (filter_map make xs) ≡ weigh (λ x. weight_of f (make x)) xs
  weigh-filter_map f make [] = refl
  weigh-filter_map f make (x ∷ xs) = by_made (make x) (weigh-filter_map f make xs)
    where
      by_made : (made : Option B) → weigh f (filter_map make xs) ≡ weigh (λ x. weight_of f (make x)) xs
          → weigh f (cons_option made (filter_map make xs)) ≡ weight_of f made + weigh (λ x. weight_of f (make x)) xs
      by_made None rest = omega (arith, rest)
      by_made (Some y) rest = ap (λ (n : ℕ). f y + n) rest

module _ {E : Type 0} (caller_of : E → ℕ) (f : E → ℕ) where
  -- what stands first weighs for its caller
  pub by-first : (k : ℕ) (entry : E) (log : List E)
      → weigh f (entries_by caller_of k (entry ∷ log))
      ≡ f entry * one_if (caller_of entry == k) + weigh f (entries_by caller_of k log)
  by-first k entry log = by_caller (caller_of entry == k)
    where
      by_caller : (is : Bool)
          → weigh f (cond is (entry ∷ entries_by caller_of k log) (entries_by caller_of k log))
          ≡ f entry * one_if is + weigh f (entries_by caller_of k log)
      by_caller true = omega arith
      by_caller false = omega arith

  at-least : (n k : ℕ) (numbers : List ℕ) → list_any (λ (other : ℕ). k == other) numbers ≡ true
      → n ≤ weigh (λ (other : ℕ). n * one_if (k == other)) numbers
  at-least n k [] any = absurd cc
  at-least n k (other ∷ numbers) any = by_first (k == other) any (at-least n k numbers)
    where
      by_first : (is : Bool) → (is || list_any (λ (other : ℕ). k == other) numbers) ≡ true
          → (list_any (λ (other : ℕ). k == other) numbers ≡ true
          → n ≤ weigh (λ (other : ℕ). n * one_if (k == other)) numbers)
          → n ≤ n * one_if is + weigh (λ (other : ℕ). n * one_if (k == other)) numbers
      by_first true any later = omega arith
      by_first false any later = let rest = later any in omega (arith, rest)

  -- A history weighs no more than the entries of all its callers together.
  pub weigh-callers : (numbers : List ℕ) (log : List E)
      → AllByRecursion (λ (entry : E). list_any (λ (k : ℕ). caller_of entry == k) numbers ≡ true) log
      → weigh f log ≤ weigh (λ (k : ℕ). weigh f (entries_by caller_of k log)) numbers
  weigh-callers numbers [] all = omega arith
  weigh-callers numbers (entry ∷ log) all =
      let rest = weigh-callers numbers log all.1 in
      let here = at-least (f entry) (caller_of entry) numbers all.0 in
      let one : weigh (λ (k : ℕ). weigh f (entries_by caller_of k (entry ∷ log))) numbers
      ≡ weigh (λ (k : ℕ). f entry * one_if (caller_of entry == k) + weigh f (entries_by caller_of k log)) numbers =
      λ i. weigh (λ (k : ℕ). by-first k entry log i) numbers in
      let two = weigh-both (λ (k : ℕ). f entry * one_if (caller_of entry == k))
      (λ (k : ℕ). weigh f (entries_by caller_of k log)) numbers in
      omega (arith, rest, here, one, two)
