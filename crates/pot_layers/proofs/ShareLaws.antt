-- The shares of a pot sum to it.
use Rattle.std.proofs.Common.{◌≡◌, ◌∙◌, ℕ, zero, suc, ◌+◌, ◌*◌, ◌/◌, ◌%◌, ◌≤◌, true, cond, refl, ap, arith}
use Rattle.std.specs.Prelude.{◌==◌, nat_lt}
use Rattle.std.proofs.lemmas.Bool.{lt-ltb}
use Rattle.std.proofs.lemmas.Bool.Decides.{nat_tests}
use Rattle.std.proofs.lemmas.Nat.{mod_below}
use Rattle.rulebook.proofs.Multiples.{multiple-times}
use Rattle.pot_layers.specs.Shares.{units_to, share_of, high_half, low_half, sum_below}

-- A unit goes to one winner: to him whose turn it is.
one-winner : (turn n : ℕ) → sum_below (λ index. cond (turn == index) 1 0) n ≡ cond (nat_lt turn n) 1 0
one-winner turn zero = grind (arith, nat_tests)
one-winner turn (suc n) = rw (one-winner turn n) (step turn n)
  where
    step : (turn n : ℕ) → cond (nat_lt turn n) 1 0 + cond (turn == n) 1 0 ≡ cond (nat_lt turn (suc n)) 1 0
    step turn n = grind (arith, nat_tests)

sum_below-plus : (f g : ℕ → ℕ) (n : ℕ) → sum_below (λ index. f index + g index) n ≡ sum_below f n + sum_below g n
sum_below-plus f g zero = refl
sum_below-plus f g (suc n) = omega (arith, sum_below-plus f g n)

sum_below-zero : (n : ℕ) → sum_below (λ index. 0) n ≡ 0
sum_below-zero zero = refl
sum_below-zero (suc n) = omega (arith, sum_below-zero n)

-- All units that are dealt go to the winners.
sum_below-units_to : (winners dealt : ℕ) → 1 ≤ winners
    → sum_below (λ index. units_to winners index dealt) winners ≡ dealt
unfolding units_to
sum_below-units_to winners zero some = sum_below-zero winners
sum_below-units_to winners (suc dealt) some =
    let turn : nat_lt (dealt % winners) winners ≡ true =
    lt-ltb (dealt % winners) winners (mod_below dealt winners (omega arith)) in
    sum_below-plus (λ index. units_to winners index dealt) (λ index. cond (dealt % winners == index) 1 0) winners
    ∙ rw (sum_below-units_to winners dealt some, one-winner (dealt % winners) winners, turn) (omega arith)

sum_below-times : (unit : ℕ) (f : ℕ → ℕ) (n : ℕ) → sum_below (λ index. unit * f index) n ≡ unit * sum_below f n
sum_below-times unit f zero = omega arith
sum_below-times unit f (suc n) = omega (arith, sum_below-times unit f n)

-- The shares of all winners sum to the pot.
pub sum_below-share_of : (amount unit winners : ℕ) → 1 ≤ winners → amount % unit ≡ 0
    → sum_below (λ index. share_of amount unit winners index) winners ≡ amount
sum_below-share_of amount unit winners some whole =
    sum_below-times unit (λ index. units_to winners index (amount / unit)) winners
    ∙ ap (λ n. unit * n) (sum_below-units_to winners (amount / unit) some)
    ∙ multiple-times unit amount whole

-- The two halves sum to the pot.
pub halves-sum : (amount unit : ℕ) → amount % unit ≡ 0 → high_half amount unit + low_half amount unit ≡ amount
halves-sum amount unit whole = let both = sum_below-share_of amount unit 2 (omega arith) whole in omega (arith, both)
