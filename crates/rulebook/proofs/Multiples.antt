-- Multiples of a unit.
use Rattle.std.proofs.Common.{◌≡◌, ◌∙◌, sym, ap, true, List, [], ◌∷◌, ℕ, ◌+◌, ◌-◌, ◌*◌, ◌/◌, ◌%◌, ◌≤◌, inl, inr, arith}
use Rattle.std.specs.Prelude.{◌==◌, max, min, sum_by}
use Rattle.std.specs.List.{list_all}
use Rattle.std.proofs.Math.Nat.{zero-mod, add-mul-mod_self_right, min-eq_left, min-eq_right}
use Rattle.std.proofs.lemmas.Bool.{and_parts, cases_lt, eqb-true}
use Rattle.std.proofs.lemmas.List.Sums.{sum_by-cons}
use Rattle.std.proofs.lemmas.Nat.{div-add-mod'}

-- A multiple added to a number changes nothing of what is left of it.
pub multiple-behind : (unit number multiple : ℕ) → multiple % unit ≡ 0 → (number + multiple) % unit ≡ number % unit
multiple-behind unit number multiple whole =
    let quotient : multiple ≡ multiple / unit * unit = omega (arith, div-add-mod' multiple unit, whole) in
    ap (λ n. (number + n) % unit) quotient ∙ add-mul-mod_self_right number (multiple / unit) unit

-- The sum of two multiples is one.
pub multiple-add : (unit one other : ℕ) → one % unit ≡ 0 → other % unit ≡ 0 → (one + other) % unit ≡ 0
multiple-add unit one other first second = multiple-behind unit one other second ∙ first

-- What a multiple leaves of a multiple is one.
pub multiple-sub : (unit whole part : ℕ) → part ≤ whole → whole % unit ≡ 0 → part % unit ≡ 0 → (whole - part) % unit ≡ 0
multiple-sub unit whole part within first second =
    let again : whole - part + part ≡ whole = omega arith in
    sym (multiple-behind unit (whole - part) part second) ∙ ap (λ n. n % unit) again ∙ first

-- The lesser of two multiples is one.
pub multiple-min : (unit one other : ℕ) → one % unit ≡ 0 → other % unit ≡ 0 → min one other % unit ≡ 0
multiple-min unit one other first second =
    elim (cases_lt one other) [
      | inl less ↦ let within : one ≤ other = omega arith in rw (min-eq_left within) first
      | inr more ↦ rw (min-eq_right more) second
    ]

-- The greater of two multiples is one.
pub multiple-max : (unit one other : ℕ) → one % unit ≡ 0 → other % unit ≡ 0 → max one other % unit ≡ 0
multiple-max unit one other first second =
    elim (cases_lt one other) [
      | inl less ↦ let is : max one other ≡ other = omega arith in rw is second
      | inr more ↦ let is : max one other ≡ one = omega arith in rw is first
    ]

-- A multiple is so many units.
pub multiple-times : (unit multiple : ℕ) → multiple % unit ≡ 0 → unit * (multiple / unit) ≡ multiple
multiple-times unit multiple whole = omega (arith, div-add-mod' multiple unit, whole)

-- A sum of multiples is one.
pub multiple-sum : {A : Type 0} (unit : ℕ) (number : A → ℕ) (items : List A)
    → list_all (λ item. number item % unit == 0) items ≡ true → sum_by number items % unit ≡ 0
multiple-sum unit number [] whole = zero-mod unit
multiple-sum unit number (item ∷ items) whole =
    let parts = and_parts (number item % unit == 0) (list_all (λ item. number item % unit == 0) items) whole in
    let rest = multiple-sum unit number items parts.1 in
    rw (sum_by-cons number item items)
    (multiple-add unit (number item) (sum_by number items) (eqb-true _ 0 parts.0) rest)
