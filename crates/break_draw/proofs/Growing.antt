-- What is kept of the tables that a walk by number has passed, when it passes one more.
use Rattle.std.proofs.Common.{◌≡◌, ◌∙◌, ap, ℕ, zero, suc, ◌+◌, Bool, true, false, cond, List, [], ◌∷◌, ◌++◌, map, add-one, arith, append-nil}
use Rattle.std.specs.Prelude.{filter, fold, sum}
use Rattle.std.proofs.lemmas.List.Elements.{filter-append}
use Rattle.std.proofs.lemmas.List.Sums.{fold-append, sum_by-cons, sum-map, sum_by_push}
use Rattle.rulebook.specs.Seats.{walk}

-- A walk by number with one more step ends with the next number.
walk-ends : (steps from : ℕ) → walk suc (suc steps) from ≡ walk suc steps from ++ suc (from + steps) ∷ []
walk-ends zero from = ap (λ (n : ℕ). suc n ∷ []) (omega arith)
walk-ends (suc steps) from = ap (λ rest. suc from ∷ rest) (walk-ends steps (suc from)
    ∙ ap (λ (n : ℕ). walk suc steps (suc from) ++ suc n ∷ []) (omega arith))

-- The tables that pass a test, of one more table.
pub passed-more : (test : ℕ → Bool) (below : ℕ)
    → filter test (walk suc (below + 1) 0) ≡ filter test (walk suc below 0) ++ cond (test (below + 1))
    ((below + 1) ∷ []) []
passed-more test below =
    ap (λ (n : ℕ). filter test (walk suc n 0)) (add-one below)
    ∙ (ap (filter test) (walk-ends below 0 ∙ ap (λ (n : ℕ). walk suc below 0 ++ n ∷ []) (omega arith))
    ∙ filter-append test (walk suc below 0) ((below + 1) ∷ []))

-- One more table that passes.
pub passed-one : (test : ℕ → Bool) (below : ℕ) → test (below + 1) ≡ true
    → filter test (walk suc (below + 1) 0) ≡ filter test (walk suc below 0) ++ (below + 1) ∷ []
passed-one test below passes = passed-more test below
    ∙ ap (λ b. filter test (walk suc below 0) ++ cond b ((below + 1) ∷ []) []) passes

-- One more table that does not.
pub passed-none : (test : ℕ → Bool) (below : ℕ) → test (below + 1) ≡ false
    → filter test (walk suc (below + 1) 0) ≡ filter test (walk suc below 0)
passed-none test below fails = passed-more test below
    ∙ (ap (λ b. filter test (walk suc below 0) ++ cond b ((below + 1) ∷ []) []) fails
    ∙ append-nil (filter test (walk suc below 0)))

-- What is folded over the tables that pass, with one more that passes.
pub folded-one : {B : Type 0} (f : B → ℕ → B) (start : B) (test : ℕ → Bool) (below : ℕ) → test (below + 1) ≡ true
    → fold f start (filter test (walk suc (below + 1) 0)) ≡ f (fold f start (filter test (walk suc below 0)))
    (below + 1)
folded-one f start test below passes = ap (fold f start) (passed-one test below passes)
    ∙ fold-append f start (filter test (walk suc below 0)) ((below + 1) ∷ [])

-- A sum over one more table in front.
pub sum-first : (value : ℕ → ℕ) (x : ℕ) (xs : List ℕ) → sum (map value (x ∷ xs)) ≡ value x + sum (map value xs)
sum-first value x xs = sum_by-cons (λ n. n) (value x) (map value xs)

sum-ends : (value : ℕ → ℕ) (xs : List ℕ) (x : ℕ) → sum (map value (xs ++ x ∷ [])) ≡ sum (map value xs) + value x
sum-ends value xs x =
    omega (arith, sum-map value (xs ++ x ∷ []), sum_by_push value xs x, sum-map value xs)

-- The sum over the tables that pass, with one more that passes.
pub summed-one : (value : ℕ → ℕ) (test : ℕ → Bool) (below : ℕ) → test (below + 1) ≡ true
    → sum (map value (filter test (walk suc (below + 1) 0)))
    ≡ sum (map value (filter test (walk suc below 0))) + value (below + 1)
summed-one value test below passes = ap (λ tables. sum (map value tables)) (passed-one test below passes)
    ∙ sum-ends value (filter test (walk suc below 0)) (below + 1)
