-- What is computed at each number below a bound. This project's own.
use Rattle.std.proofs.Common.{◌≡◌, ℕ, ◌<◌, Bool, true, false, Option, Some, None, refl, ap}
use Rattle.std.specs.Prelude.{◌==◌}
use Rattle.std.proofs.lemmas.Bool.{agree_below, agree_below_at, eqb-true}

-- a test that holds at each number below a bound
unfoldable pub all_below : (ℕ → Bool) → ℕ → Bool
all_below p n = agree_below p (λ k. true) n

-- what holds at each number below a bound holds at one
pub holds_below : (p : ℕ → Bool) (n k : ℕ) → all_below p n ≡ true → k < n → p k ≡ true
unfolding all_below
holds_below p n k h below = agree_below_at p (λ k. true) n k h below

-- whether two options of numbers are the same
unfoldable pub are_same : Option ℕ → Option ℕ → Bool
are_same None None = true
are_same (Some one) (Some other) = one == other
are_same None (Some other) = false
are_same (Some one) None = false

-- two options of numbers that are the same by the test are equal
pub same-is : (one other : Option ℕ) → are_same one other ≡ true → one ≡ other
unfolding are_same
same-is None None same = refl
same-is (Some one) (Some other) same = ap Some (eqb-true one other same)
same-is None (Some other) same = absurd cc
same-is (Some one) None same = absurd cc
