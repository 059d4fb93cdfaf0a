-- The unit of a later level is that of an earlier one times a whole number.
use Rattle.std.proofs.Common.{◌≡◌, ◌∙◌, refl, sym, ap, ℕ, zero, suc, ◌+◌, ◌-◌, ◌*◌, ◌/◌, ◌%◌, ◌<◌, ◌≤◌, true, ◌==◌, ◌&&◌, List, [], ◌∷◌, length, arith}
use Rattle.std.specs.Prelude.{slice_get, Option, Some, None}
use Rattle.std.specs.Option.{option_map_or}
use Rattle.std.proofs.lemmas.Bool.{and_parts, eqb-true}
use Rattle.std.proofs.lemmas.List.Folds.{Any-from_list_any}
use Rattle.std.proofs.Math.Nat.{mul-mod_right, mul_assoc, div-add-mod}
use Rattle.std.proofs.lemmas.Bool.Decides.{nat_tests}
use Rattle.level_plan.specs.declared.plan.Blind.{Blind}
use Rattle.level_plan.specs.Items.{is_blind, is_next_unit, are_levels}
use Rattle.level_plan.specs.Plans.{unit_of_level}
use Rattle.level_plan.proofs.Levels.{is_blind_level}
use Rattle.chip_race.proofs.Given.{multiple-le}

-- One number is another times a whole number.
abbrev pub IsTimes : ℕ → ℕ → Type 0
IsTimes unit more = (times : ℕ) × (more ≡ unit * times)

unit_at : List Blind → ℕ → ℕ
unit_at blinds i = option_map_or (λ blind. blind.unit) (slice_get blinds i) 1

-- A unit that may come next is the one before times a whole number.
pub next_times : (unit next : ℕ) → is_next_unit unit next ≡ true → IsTimes unit next
next_times unit next follows =
    let found = Any-from_list_any (λ times. next == unit * times) (1 ∷ 2 ∷ 3 ∷ 4 ∷ 5 ∷ 6 ∷ []) follows in
    (found.1, eqb-true next (unit * found.1) found.4)

next_at : (blinds : List Blind) (i : ℕ) → are_levels blinds ≡ true → suc i < length blinds
    → is_next_unit (unit_at blinds i) (unit_at blinds (suc i)) ≡ true
unfolding unit_at
next_at [] i levels within = absurd (omega arith)
next_at (first ∷ []) i levels within = absurd (omega arith)
next_at (first ∷ second ∷ more) zero levels within =
    let rest = and_parts (is_blind first) (is_next_unit first.unit second.unit && are_levels (second ∷ more)) levels in
    (and_parts (is_next_unit first.unit second.unit) (are_levels (second ∷ more)) rest.1).0
next_at (first ∷ second ∷ more) (suc i) levels within =
    let rest = and_parts (is_blind first) (is_next_unit first.unit second.unit && are_levels (second ∷ more)) levels in
    next_at (second ∷ more) i (and_parts (is_next_unit first.unit second.unit) (are_levels (second ∷ more)) rest.1).1
    (omega arith)

-- The unit of the next level may come next after that of a level.
pub next_unit : (blinds : List Blind) (level : ℕ) → are_levels blinds ≡ true → 1 ≤ level → level < length blinds
    → is_next_unit (unit_of_level blinds level) (unit_of_level blinds (level + 1)) ≡ true
unfolding unit_at
next_unit blinds level levels first last =
    let index : suc (level - 1) ≡ level + 1 - 1 = omega arith in
    ap (λ (i : ℕ). is_next_unit (unit_of_level blinds level) (unit_at blinds i)) (sym index)
    ∙ next_at blinds (level - 1) levels (omega arith)

times_times : (unit next more : ℕ) → IsTimes unit next → IsTimes next more → IsTimes unit more
times_times unit next more one other =
    (one.0 * other.0, other.1 ∙ (ap (λ (n : ℕ). n * other.0) one.1 ∙ mul_assoc unit one.0 other.0))

times_first : (first : Blind) (more : List Blind) (i : ℕ) → are_levels (first ∷ more) ≡ true → i < length (first ∷ more)
    → IsTimes first.unit (unit_at (first ∷ more) i)
unfolding unit_at
times_first first more zero levels within = (1, omega arith)
times_first first [] (suc i) levels within = absurd (omega arith)
times_first first (second ∷ more) (suc i) levels within =
    let rest = and_parts (is_next_unit first.unit second.unit) (are_levels (second ∷ more))
    (and_parts (is_blind first) _ levels).1 in
    times_times first.unit second.unit _ (next_times first.unit second.unit rest.0)
    (times_first second more i rest.1 (omega arith))

times_later : (blinds : List Blind) (i j : ℕ) → are_levels blinds ≡ true → i ≤ j → j < length blinds
    → IsTimes (unit_at blinds i) (unit_at blinds j)
unfolding unit_at
times_later [] i j levels order within = absurd (omega arith)
times_later (first ∷ more) zero j levels order within = times_first first more j levels within
times_later (first ∷ more) (suc i) zero levels order within = absurd (omega arith)
times_later (first ∷ []) (suc i) (suc j) levels order within = absurd (omega arith)
times_later (first ∷ second ∷ more) (suc i) (suc j) levels order within =
    let rest = and_parts (is_next_unit first.unit second.unit) (are_levels (second ∷ more))
    (and_parts (is_blind first) _ levels).1 in
    times_later (second ∷ more) i j rest.1 (omega arith) (omega arith)

-- A stack that is a multiple of a unit is one of each unit of which that is a multiple.
pub whole_times : (stack unit more : ℕ) → IsTimes unit more → stack % more ≡ 0 → stack % unit ≡ 0
whole_times stack unit more times whole =
    let count = stack / more in
    let split : stack ≡ more * count = omega (arith, div-add-mod stack more, whole) in
    let more_times = ap (λ (n : ℕ). n * count) times.1 in
    let parts = split ∙ (more_times ∙ mul_assoc unit times.0 count) in
    ap (λ (n : ℕ). n % unit) parts ∙ mul-mod_right unit (times.0 * count)

-- A stack that is a multiple of a level's unit is one of each earlier level's unit.
pub whole_earlier : (blinds : List Blind) (level late stack : ℕ) → are_levels blinds ≡ true → 1 ≤ level → level ≤ late
    → late ≤ length blinds → stack % unit_of_level blinds late ≡ 0 → stack % unit_of_level blinds level ≡ 0
unfolding unit_at
whole_earlier blinds level late stack levels first order last whole =
    whole_times stack (unit_at blinds (level - 1)) (unit_at blinds (late - 1))
    (times_later blinds (level - 1) (late - 1) levels (omega arith) (omega arith)) whole

-- No level's unit is above the greatest amount.
pub small_unit : (blinds : List Blind) (level : ℕ) → are_levels blinds ≡ true
    → unit_of_level blinds level ≤ 1000000000
small_unit blinds level levels = by_find (slice_get blinds (level - 1)) refl
  where
    one : (blind : Blind) → is_blind blind ≡ true → blind.unit ≤ 1000000000
    one blind lawful =
        let small : 1 ≤ blind.small = grind (arith, nat_tests) in
        let big : blind.small ≤ 1000000000 = grind (arith, nat_tests) in
        let whole : blind.small % blind.unit ≡ 0 = grind (arith, nat_tests) in
        let most = multiple-le blind.unit blind.small whole small in
        omega (arith, most, big)

    by_find : (found : Option Blind) → slice_get blinds (level - 1) ≡ found
        → option_map_or (λ blind. blind.unit) found 1 ≤ 1000000000
    by_find None is = omega arith
    by_find (Some blind) is = one blind (is_blind_level blinds (level - 1) blind levels is)
