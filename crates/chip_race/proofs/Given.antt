-- What a player is given in a race, and his stack after it.
use Rattle.std.proofs.Common.{◌≡◌, ◌∙◌, ap, ℕ, ◌+◌, ◌-◌, ◌*◌, ◌/◌, ◌%◌, ◌<◌, ◌≤◌, ◌⊎◌, inl, inr, Bool, List, true, false, add-zero, arith}
use Rattle.std.specs.Prelude.{sum, sum_by}
use Rattle.std.proofs.lemmas.Bool.{cases_lt}
use Rattle.std.proofs.lemmas.Bool.Decides.{nat_tests}
use Rattle.std.proofs.lemmas.List.Sums.{sum_by-le-sum_by}
use Rattle.std.proofs.Math.Nat.{zero-mod, mod-eq_of_lt, div-add-mod, mul-add-mod_self_left, add-mod_right}
use Rattle.chip_race.specs.Races.{given_value, odd_value, stack_after}

-- Who has won a chip gets no other.
pub given-won : (new stack : ℕ) → 1 ≤ new → given_value new true stack ≡ new
given-won new stack unit = grind (arith, nat_tests)

-- Who has won none and has nothing but odd chips is protected.
pub given-protected : (new stack : ℕ) → 1 ≤ new → 1 ≤ stack → stack < new → given_value new false stack ≡ new
given-protected new stack unit some less = grind (arith, nat_tests)

-- An empty seat is given nothing.
pub given-empty : (new : ℕ) → 1 ≤ new → given_value new false 0 ≡ 0
given-empty new unit = grind (arith, nat_tests)

-- Who has won none and has a chip of the new unit is given nothing.
pub given-none : (new stack : ℕ) → 1 ≤ new → new ≤ stack → given_value new false stack ≡ 0
given-none new stack unit enough = grind (arith, nat_tests)

where_is : (new stack : ℕ) → (stack ≡ 0) ⊎ ((1 ≤ stack) × (stack < new)) ⊎ (new ≤ stack)
where_is new stack = grind arith

-- A player is given one chip of the new unit or none.
pub given-one_or_none : (new : ℕ) (has_won : Bool) (stack : ℕ) → 1 ≤ new → (given_value new has_won stack ≡ 0)
    ⊎ (given_value new has_won stack ≡ new)
given-one_or_none new true stack unit = inr (given-won new stack unit)
given-one_or_none new false stack unit = elim (where_is new stack) [
  | inl empty ↦ inl (ap (given_value new false) empty ∙ given-empty new unit)
  | inr some ↦ elim some [
    | inl odd ↦ inr (given-protected new stack unit odd.0 odd.1)
    | inr enough ↦ inl (given-none new stack unit enough)
  ]
]

-- A player with a stack has one after the race.
pub stack_after-some : (new : ℕ) (has_won : Bool) (stack : ℕ) → 1 ≤ new → 1 ≤ stack → 1 ≤ stack_after new has_won stack
stack_after-some new true stack unit some = (let given = given-won new stack unit in omega (arith, given))
stack_after-some new false stack unit some = elim (where_is new stack) [
  | inl empty ↦ omega arith
  | inr some ↦ elim some [
    | inl odd ↦ (let given = given-protected new stack unit odd.0 odd.1 in omega (arith, given))
    | inr enough ↦ omega arith
  ]
]

-- No odd value is above its stack.
pub odd-within : (new stack : ℕ) → odd_value new stack ≤ stack
odd-within new stack = omega arith

-- So their sum is not above that of the stacks.
pub odd-le : (new : ℕ) (stacks : List ℕ) → sum_by (odd_value new) stacks ≤ sum stacks
odd-le new stacks = sum_by-le-sum_by (odd_value new) (λ stack. stack) stacks (λ stack. odd-within new stack)

-- A multiple of a unit that is something is at least the unit.
pub multiple-le : (unit amount : ℕ) → amount % unit ≡ 0 → 1 ≤ amount → unit ≤ amount
multiple-le unit amount whole some = elim (cases_lt amount unit) [
  | inl less ↦ (let same = mod-eq_of_lt less in omega (arith, same))
  | inr enough ↦ enough
]

-- What a player is given is at most six times his stack, as a chip of the new unit is at most six of the old.
pub given-few : (old new : ℕ) (has_won : Bool) (stack : ℕ) → 1 ≤ new → new ≤ 6 * old → stack % old ≡ 0
    → (stack ≡ 0 → has_won ≡ false) → given_value new has_won stack ≤ 6 * stack
given-few old new has_won stack unit most whole empty = elim (where_is 1 stack) [
  | inl none ↦ (let given : given_value new has_won stack ≡ 0 = ap (λ won. given_value new won stack) (empty none)
      ∙ ap (given_value new false) none ∙ given-empty new unit in omega (arith, given))
  | inr some ↦
      let stack_some : 1 ≤ stack = grind (arith, some) in
      let enough : old ≤ stack = multiple-le old stack whole stack_some in
      elim (given-one_or_none new has_won stack unit) [
        | inl none ↦ omega (arith, none)
        | inr one ↦ omega (arith, one)
      ]
]

whole-part : (new stack : ℕ) → (stack - stack % new) % new ≡ 0
whole-part new stack =
    let parts = div-add-mod stack new in
    let quotient : stack - stack % new ≡ new * (stack / new) + 0 = omega (arith, parts) in
    rw quotient (mul-add-mod_self_left new (stack / new) 0 ∙ zero-mod new)

-- Every stack after a race is a whole number of chips of the new unit.
pub stack_after-whole : (new : ℕ) (has_won : Bool) (stack : ℕ) → 1 ≤ new → stack_after new has_won stack % new ≡ 0
stack_after-whole new has_won stack unit = elim (given-one_or_none new has_won stack unit) [
  | inl none ↦ ap (λ given. (stack - stack % new + given) % new) none
      ∙ ap (λ n. n % new) (add-zero (stack - stack % new)) ∙ whole-part new stack
  | inr one ↦ ap (λ given. (stack - stack % new + given) % new) one ∙ add-mod_right (stack - stack % new) new
      ∙ whole-part new stack
]
