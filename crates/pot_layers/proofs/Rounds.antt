-- Units that go round, as quotients.
use Rattle.std.proofs.Common.{◌≡◌, ◌∙◌, ℕ, zero, suc, ◌+◌, ◌*◌, ◌/◌, ◌%◌, ◌<◌, cond, ap, sym, arith}
use Rattle.std.specs.Prelude.{◌==◌, nat_lt}
use Rattle.std.proofs.lemmas.Bool.Decides.{nat_tests}
use Rattle.std.proofs.lemmas.Nat.{mod-mul-add, div-add-mod', mod_below}
use Rattle.pot_layers.specs.Shares.{units_to}

-- Before the round is over, one more unit goes to the next winner.
next-unit : (winners index dealt whole part : ℕ) → dealt ≡ whole * winners + part → part < winners
    → units_to winners index dealt ≡ whole + cond (nat_lt index part) 1 0
    → units_to winners index (suc dealt) ≡ whole + cond (nat_lt index (suc part)) 1 0
unfolding units_to
next-unit winners index dealt whole part is within before =
    let turn : dealt % winners ≡ part = ap (λ n. n % winners) is ∙ mod-mul-add whole winners part within in
    rw (before, turn) (one index part)
  where
    one : (index part : ℕ)
        → whole + cond (nat_lt index part) 1 0 + cond (part == index) 1 0 ≡ whole + cond (nat_lt index (suc part)) 1 0
    one index part = grind (arith, nat_tests)

-- Of so many whole rounds and a part of one, a winner gets a unit of each round, and one more where the part reaches
-- him.
pub units_to-rounds : (winners index dealt whole part : ℕ) → index < winners → dealt ≡ whole * winners + part
    → part < winners → units_to winners index dealt ≡ whole + cond (nat_lt index part) 1 0
unfolding units_to
units_to-rounds winners index zero zero part within is under = let none : part ≡ 0 = omega (arith, is) in
    rw none (grind (arith, nat_tests))
units_to-rounds winners index zero (suc whole) part within is under = absurd (omega (arith, is, under))
units_to-rounds winners index (suc dealt) whole (suc part) within is under =
    next-unit winners index dealt whole part (omega (arith, is)) (omega arith)
    (units_to-rounds winners index dealt whole part within (omega (arith, is)) (omega arith))
units_to-rounds winners index (suc dealt) zero zero within is under = absurd (omega (arith, is))
units_to-rounds zero index (suc dealt) (suc whole) zero within is under = absurd (omega arith)
units_to-rounds (suc last) index (suc dealt) (suc whole) zero within is under =
    next-unit (suc last) index dealt whole last (omega (arith, is)) (omega arith)
    (units_to-rounds (suc last) index dealt whole last within (omega (arith, is)) (omega arith))
    ∙ all_round index last whole within
  where
    all_round : (index last whole : ℕ) → index < suc last
        → whole + cond (nat_lt index (suc last)) 1 0 ≡ suc whole + cond (nat_lt index 0) 1 0
    all_round index last whole within = grind (arith, nat_tests)

-- The quotient, and one more for the first winners.
pub units_to-quotient : (winners index units : ℕ) → index < winners
    → units_to winners index units ≡ units / winners + cond (nat_lt index (units % winners)) 1 0
units_to-quotient winners index units within =
    units_to-rounds winners index units (units / winners) (units % winners) within (sym (div-add-mod' units winners))
    (mod_below units winners (omega arith))
