-- The ranks that are picked are the greatest list of ranks that occur so often.
use Rattle.std.proofs.Common.{◌≡◌, ℕ, zero, suc, ◌<◌, ◌≤◌, Bool, true, false, cond, eqb, List, [], ◌∷◌, Some, None, refl, sym, ap, subst, zero-le, le_refl, eqb-true, arith}
use Rattle.std.proofs.lemmas.Bool.Decides.{nat_tests}
use Rattle.hand_rank.specs.Picks.{highest_below, without}

-- the highest number below a bound passes the test, and none above it does
pub record IsHighest (test : ℕ → Bool) (n rank : ℕ) : Type 0 where
  pub passes : test rank ≡ true
  pub below : rank < n
  pub above : (r : ℕ) → r < n → test r ≡ true → r ≤ rank

-- the number that is found below a bound is the highest there that passes the test
pub highest-is : (test : ℕ → Bool) (n rank : ℕ) → highest_below test n ≡ Some rank → IsHighest test n rank
unfolding highest_below
highest-is test zero rank is = absurd cc
highest-is test (suc n) rank is =
    (elim (test n) as (λ b. test n ≡ b → cond b (Some n) (highest_below test n) ≡ Some rank
    → IsHighest test (suc n) rank) [
      | true ↦ λ passes found.
          let same : n ≡ rank = cc in
          record {
            passes = subst (λ r. test r ≡ true) same passes;
            below = omega arith;
            above =
                λ r within there. omega arith;
          }
      | false ↦ λ fails found.
          let later = highest-is test n rank found in
          record {
            passes = later.passes;
            below = let less = later.below in omega arith;
            above = λ r within there.
                elim (eqb r n) as (λ b. eqb r n ≡ b → r ≤ rank) [
                  | true ↦ λ same. let is_n = eqb-true r n same in let bad : test n ≡ true =
                      subst (λ m. test m ≡ true) is_n there in absurd cc
                  | false ↦ λ other. later.above r (grind (arith, nat_tests)) there
                ] refl;
          }
    ]) refl is

-- where no number is found below a bound, none there passes the test
pub highest-none : (test : ℕ → Bool) (n r : ℕ) → highest_below test n ≡ None → r < n → test r ≡ false
unfolding highest_below
highest-none test zero r is within = absurd (omega arith)
highest-none test (suc n) r is within =
    (elim (test n) as (λ b. test n ≡ b → cond b (Some n) (highest_below test n) ≡ None → test r ≡ false) [
      | true ↦ λ passes found. absurd cc
      | false ↦ λ fails found.
          elim (eqb r n) as (λ b. eqb r n ≡ b → test r ≡ false) [
            | true ↦ λ same. let is_n = eqb-true r n same in subst (λ m. test m ≡ false) (sym is_n) fails
            | false ↦ λ other. highest-none test n r found (grind (arith, nat_tests))
          ] refl
    ]) refl is

-- what is below is found below
pub highest-from : (test : ℕ → Bool) (n rank : ℕ) → IsHighest test n rank → highest_below test n ≡ Some rank
highest-from test n rank is =
    elim (highest_below test n) as (λ o. highest_below test n ≡ o → o ≡ Some rank) [
      | None ↦ λ none. let fails = highest-none test n rank none is.below in let passes = is.passes in absurd cc
      | Some other ↦ λ some.
          let found = highest-is test n other some in
          let up = is.above other found.below found.passes in
          let down = found.above rank is.below is.passes in
          let same : other ≡ rank = omega arith in
          ap (λ r. Some r) same
    ] refl

-- some distinct ranks, each of which occurs as often as it has to, or more often
abbrev pub Has : List ℕ → List ℕ → (ℕ → ℕ) → Type 0
Has [] [] count = Unit {0}
Has [] (rank ∷ ranks) count = ⊥
Has (often ∷ more) [] count = ⊥
Has (often ∷ more) (rank ∷ ranks) count = (rank < 15) × (often ≤ count rank) × Has more ranks (without rank count)

-- numbers of 1 and more that fall or stay, from one number on
abbrev pub Falls : ℕ → List ℕ → Type 0
Falls most [] = Unit {0}
Falls most (often ∷ more) = (1 ≤ often) × (often ≤ most) × Falls often more

-- when one rank is left out, every other rank occurs as often as before
pub without-other : (rank r : ℕ) (count : ℕ → ℕ) → (r ≡ rank → ⊥) → without rank count r ≡ count r
without-other rank r count other = let is : eqb r rank ≡ false = grind (arith, nat_tests) in rw is refl

-- when one rank is left out, no rank occurs more often than before
pub without-less : (rank r : ℕ) (count : ℕ → ℕ) → without rank count r ≤ count r
without-less rank r count =
    elim (eqb r rank) as (λ t. cond t 0 (count r) ≤ count r) [ true ↦ zero-le | false ↦ le_refl (count r) ]

-- a rank that still occurs when one is left out is not that one
pub without-some : (rank r : ℕ) (count : ℕ → ℕ) → 1 ≤ without rank count r → r ≡ rank → ⊥
without-some rank r count some same = let is : eqb r rank ≡ true = grind (arith, nat_tests) in
    let none : without rank count r ≡ 0 = rw is refl in omega arith
