-- Levels in a row: each has lawful blinds, and one more that may follow leaves them in a row.
use Rattle.std.proofs.Common.{◌≡◌, ℕ, ◌-◌, ◌*◌, ◌<◌, ◌≤◌, true, ◌&&◌, List, [], ◌∷◌, ◌++◌, length, sum, Option, Some, None, arith, sym, ◌∙◌, refl, subst, zero, suc}
use native.Mathlib.Numerals.{unary_clauses}
use Rattle.std.specs.Prelude.{slice_get, nat_le}
use Rattle.std.specs.List.{list_all}
use Rattle.std.specs.Option.{option_map_or}
use Rattle.std.proofs.lemmas.Bool.{and_parts, and_from}
use Rattle.std.proofs.lemmas.Bool.Decides.{nat_tests}
use Rattle.std.proofs.lemmas.Grind.{common_steps}
use Rattle.std.proofs.lemmas.Option.{same_Some}
use Rattle.level_plan.specs.declared.plan.Blind.{Blind}
use Rattle.level_plan.specs.Items.{is_between, is_blind, is_next_unit, may_follow, are_levels}
use Rattle.level_plan.specs.Plans.{unit_of_level}

-- shares of at most 1000 each are together at most 1000 times their number
pub sum_of_thousandths : (shares : List ℕ) → list_all (is_between 1 1000) shares ≡ true
    → sum shares ≤ 1000 * length shares
sum_of_thousandths [] each = omega arith
sum_of_thousandths (share ∷ shares) each =
    let here = and_parts (is_between 1 1000 share) (list_all (is_between 1 1000) shares) each in
    grind (arith, nat_tests, common_steps, sum_of_thousandths shares here.1)

-- the blinds of each level are lawful
pub is_blind_level : (blinds : List Blind) (i : ℕ) (blind : Blind) → are_levels blinds ≡ true
    → slice_get blinds i ≡ Some blind → is_blind blind ≡ true
is_blind_level [] i blind levels found = cc
is_blind_level (first ∷ []) zero blind levels found =
    subst (λ (b : Blind). is_blind b ≡ true) (same_Some first blind found) levels
is_blind_level (first ∷ []) (suc i) blind levels found = cc
is_blind_level (first ∷ second ∷ more) zero blind levels found =
    let here = and_parts (is_blind first) (is_next_unit first.unit second.unit && are_levels (second ∷ more)) levels in
    subst (λ (b : Blind). is_blind b ≡ true) (same_Some first blind found) here.0
is_blind_level (first ∷ second ∷ more) (suc i) blind levels found =
    let here = and_parts (is_blind first) (is_next_unit first.unit second.unit && are_levels (second ∷ more)) levels in
    let rest = and_parts (is_next_unit first.unit second.unit) (are_levels (second ∷ more)) here.1 in
    is_blind_level (second ∷ more) i blind rest.1 found

-- only the last of two or more levels matters to the next
may_follow_last : (first second : Blind) (more : List Blind) (blind : Blind)
    → may_follow (first ∷ second ∷ more) blind ≡ may_follow (second ∷ more) blind
may_follow_last first second more blind = simp unary_clauses

-- a level that may follow levels in a row leaves them in a row
pub are_levels_more : (blinds : List Blind) (blind : Blind) → are_levels blinds ≡ true → is_blind blind ≡ true
    → may_follow blinds blind ≡ true → are_levels (blinds ++ blind ∷ []) ≡ true
are_levels_more [] blind levels lawful follows = lawful
are_levels_more (first ∷ []) blind levels lawful follows =
    and_from _ _ levels (and_from _ _ follows lawful)
are_levels_more (first ∷ second ∷ more) blind levels lawful follows =
    let here = and_parts (is_blind first) (is_next_unit first.unit second.unit && are_levels (second ∷ more)) levels in
    let rest = and_parts (is_next_unit first.unit second.unit) (are_levels (second ∷ more)) here.1 in
    and_from _ _ here.0 (and_from _ _ rest.0
    (are_levels_more (second ∷ more) blind rest.1 lawful (sym (may_follow_last first second more blind) ∙ follows)))

unit_above : (blind : Blind) → is_blind blind ≡ true → 0 < blind.unit
unit_above blind lawful = grind (arith, nat_tests)

found_above : (found : Option Blind) → ((blind : Blind) → found ≡ Some blind → 0 < blind.unit)
    → 0 < option_map_or (λ blind. blind.unit) found 1
found_above None each = omega arith
found_above (Some blind) each = each blind refl

-- a level's unit is above 0
pub unit_of_level_above : (blinds : List Blind) (level : ℕ) → are_levels blinds ≡ true → 0 < unit_of_level blinds level
unit_of_level_above blinds level levels =
    found_above (slice_get blinds (level - 1))
    (λ blind found. unit_above blind (is_blind_level blinds (level - 1) blind levels found))

-- with one more level than fewer than 40 there are at most 40
pub level_count_more : (blinds : List Blind) (blind : Blind) → length blinds < 40
    → nat_le (length (blinds ++ blind ∷ [])) 40 ≡ true
level_count_more blinds blind room = grind (arith, nat_tests, common_steps)
