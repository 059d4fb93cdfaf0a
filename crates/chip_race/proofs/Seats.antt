-- A race seat by seat.
use Rattle.std.proofs.Common.{◌≡◌, ◌∙◌, ap, sym, refl, ℕ, zero, suc, ◌+◌, ◌-◌, ◌%◌, ◌<◌, ◌≤◌, true, List, [], ◌∷◌, ◌++◌, length, take, drop, get_or, set, arith, append_assoc}
use Rattle.std.specs.Prelude.{sum, sum_by, ◌==◌}
use Rattle.std.specs.List.{enumerate_from}
use Rattle.std.proofs.lemmas.Bool.{and_from, and_parts, eq-eqb, eqb-true}
use Rattle.std.proofs.lemmas.List.{drop_more, take_more_set}
use Rattle.std.proofs.lemmas.List.Sums.{sum_by-cons}
use Rattle.chip_race.specs.Races.{odd_value, given_value, is_among, stack_after, stacks_after, added_value, are_whole}
use Rattle.chip_race.proofs.Given.{odd-within, stack_after-whole}

-- The next player's stack is changed.
pub stacks-more : (new : ℕ) (players stacks after whole : List ℕ) (index given : ℕ) → index < length stacks
    → index < length after
    → given ≡ given_value new (is_among players index) (get_or stacks index 0)
    → whole ≡ take index after ++ stacks_after new players index (drop index stacks)
    → whole ≡ take (index + 1) (set after index (get_or stacks index 0 - get_or stacks index 0 % new + given))
    ++ stacks_after new players (index + 1) (drop (index + 1) stacks)
stacks-more new players stacks after whole index given within room is so_far =
    rw is
    (so_far
    ∙ ap (λ behind. take index after ++ stacks_after new players index behind) (drop_more stacks index 0 within)
    ∙ sym (append_assoc (take index after) (stack_after new (is_among players index) (get_or stacks index 0) ∷ [])
    (stacks_after new players (index + 1) (drop (index + 1) stacks)))
    ∙ ap (λ front. front ++ stacks_after new players (index + 1) (drop (index + 1) stacks))
    (sym (take_more_set after index (stack_after new (is_among players index) (get_or stacks index 0)) room)))

-- What he is given is added.
pub value-more : (new : ℕ) (players stacks : List ℕ) (whole added index given : ℕ) → index < length stacks
    → given ≡ given_value new (is_among players index) (get_or stacks index 0)
    → whole ≡ added + added_value new players index (drop index stacks)
    → whole ≡ added + given + added_value new players (index + 1) (drop (index + 1) stacks)
value-more new players stacks whole added index given within is so_far =
    let next = ap (λ behind. added_value new players index behind) (drop_more stacks index 0 within)
    ∙ sum_by-cons (λ (seat : ℕ × ℕ). given_value new (is_among players seat.0) seat.1) (index, get_or stacks index 0)
    (enumerate_from (index + 1) (drop (index + 1) stacks)) in
    omega (arith, so_far, next, is)

-- The stack of each seat after a race.
pub stacks_after-at : (new : ℕ) (players : List ℕ) (first : ℕ) (stacks : List ℕ) (index : ℕ) → index < length stacks
    → get_or (stacks_after new players first stacks) index 0 ≡ stack_after new (is_among players (first + index))
    (get_or stacks index 0)
stacks_after-at new players first [] index within = absurd (omega arith)
stacks_after-at new players first (stack ∷ stacks) zero within = ap (λ n. stack_after new (is_among players n) stack)
    (omega arith)
stacks_after-at new players first (stack ∷ stacks) (suc index) within =
    stacks_after-at new players (first + 1) stacks index (omega arith)
    ∙ ap (λ n. stack_after new (is_among players n) (get_or stacks index 0)) (omega arith)

-- The chips on the table and those that are removed are the chips before and those that are added.
pub stacks_after-sum : (new : ℕ) (players : List ℕ) (first : ℕ) (stacks : List ℕ)
    → sum (stacks_after new players first stacks) + sum_by (odd_value new) stacks
    ≡ sum stacks + added_value new players first stacks
stacks_after-sum new players first [] = refl
stacks_after-sum new players first (stack ∷ stacks) =
    let rest = stacks_after-sum new players (first + 1) stacks in
    let after = sum_by-cons (λ (n : ℕ). n) (stack_after new (is_among players first) stack)
    (stacks_after new players (first + 1) stacks) in
    let odd = sum_by-cons (odd_value new) stack stacks in
    let before = sum_by-cons (λ (n : ℕ). n) stack stacks in
    let added = sum_by-cons (λ (seat : ℕ × ℕ). given_value new (is_among players seat.0) seat.1) (first, stack)
    (enumerate_from (first + 1) stacks) in
    let within = odd-within new stack in
    omega (arith, rest, after, odd, before, added, within)

-- All stacks after a race are whole chips of the new unit.
pub stacks_after-whole : (new : ℕ) (players : List ℕ) (first : ℕ) (stacks : List ℕ) → 1 ≤ new
    → are_whole new (stacks_after new players first stacks) ≡ true
stacks_after-whole new players first [] unit = refl
stacks_after-whole new players first (stack ∷ stacks) unit =
    and_from _ _ (eq-eqb (stack_after new (is_among players first) stack % new) 0
    (stack_after-whole new (is_among players first) stack unit))
    (stacks_after-whole new players (first + 1) stacks unit)

-- Each stack is a whole number of chips where all are.
pub is_whole-at : (unit : ℕ) (stacks : List ℕ) (index : ℕ) → are_whole unit stacks ≡ true → index < length stacks
    → get_or stacks index 0 % unit ≡ 0
is_whole-at unit [] index whole within = absurd (omega arith)
is_whole-at unit (stack ∷ stacks) zero whole within =
    eqb-true (stack % unit) 0 (and_parts (stack % unit == 0) (are_whole unit stacks) whole).0
is_whole-at unit (stack ∷ stacks) (suc index) whole within = is_whole-at unit stacks index
    (and_parts (stack % unit == 0) (are_whole unit stacks) whole).1 (omega arith)
