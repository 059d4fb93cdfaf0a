-- Levels that are given one after another are taken where they are at most 40, lawful, and follow one another.
use Rattle.std.proofs.Common.{◌≡◌, ℕ, ◌<◌, ◌≤◌, ◌+◌, refl, sym, ap, ◌∙◌, true, false, List, [], ◌∷◌, ◌++◌, length, append_assoc, append-nil, drop, get_or, arith, ⊎_elim}
use Rattle.std.specs.Prelude.{Bool, ◌&&◌, ◌||◌, ◌==◌, not, nat_le, Some, Ok, Err, if◌then◌else◌}
use Rattle.std.proofs.lemmas.Bool.{and_parts, and_from, cases_Bool}
use Rattle.std.proofs.lemmas.Bool.Decides.{nat_tests}
use Rattle.std.proofs.lemmas.Grind.{common_steps}
use Rattle.std.proofs.lemmas.List.{drop_more}
use native.Mathlib.Numerals.{unary_clauses}
use Rattle.level_plan.specs.declared.line.PlanItem.TheVariants as items
use Rattle.level_plan.specs.declared.line.PlanLine.TheVariants as lines
use Rattle.level_plan.specs.declared.plan.Blind.{Blind}
use Rattle.level_plan.specs.Items.{is_blind, is_next_unit, may_follow, are_levels}
use Rattle.level_plan.specs.Drafts.{Draft}
use Rattle.level_plan.proofs.Levels.{are_levels_more}
use Rattle.level_plan.specs.declared.line.PlanFault.{PlanFault}
use Rattle.plan_files.specs.PlanFiles.{◌>>=◌, are_wrong_levels, IsWrong}
use Rattle.plan_files.specs.Steps.{after_line, after_levels, after_blinds}
use Rattle.plan_files.proofs.Wrong.{wrong_then}

-- one more level fits behind others
abbrev pub fits : List Blind → Blind → Bool
fits front blind = not (nat_le 40 (length front)) && (is_blind blind && may_follow front blind)

-- each of some levels fits behind those before it
abbrev pub all_fit : List Blind → List Blind → Bool
all_fit front [] = true
all_fit front (blind ∷ blinds) = fits front blind && all_fit (front ++ blind ∷ []) blinds

-- only the last of two or more levels matters to the next
follows_last : (first second : Blind) (more : List Blind) (blind : Blind)
    → may_follow (first ∷ second ∷ more) blind ≡ may_follow (second ∷ more) blind
follows_last first second more blind = simp unary_clauses

-- the first of levels in a row has lawful blinds
first_lawful : (blind : Blind) (blinds : List Blind) → are_levels (blind ∷ blinds) ≡ true → is_blind blind ≡ true
first_lawful blind [] levels = levels
first_lawful blind (next ∷ blinds) levels =
    (and_parts (is_blind blind) (is_next_unit blind.unit next.unit && are_levels (next ∷ blinds)) levels).0

-- a level among levels in a row is lawful, and follows those before it
among : (front : List Blind) (blind : Blind) (blinds : List Blind) → are_levels (front ++ blind ∷ blinds) ≡ true
    → (is_blind blind && may_follow front blind) ≡ true
among [] blind blinds levels = and_from _ _ (first_lawful blind blinds levels) refl
among (first ∷ []) blind blinds levels =
    let here = and_parts (is_blind first) (is_next_unit first.unit blind.unit && are_levels (blind ∷ blinds)) levels in
    let next = and_parts (is_next_unit first.unit blind.unit) (are_levels (blind ∷ blinds)) here.1 in
    and_from _ _ (first_lawful blind blinds next.1) next.0
among (first ∷ second ∷ more) blind blinds levels =
    let here = and_parts (is_blind first)
    (is_next_unit first.unit second.unit && are_levels (second ∷ more ++ blind ∷ blinds)) levels in
    let next = and_parts (is_next_unit first.unit second.unit) (are_levels (second ∷ more ++ blind ∷ blinds)) here.1 in
    rw (follows_last first second more blind) (among (second ∷ more) blind blinds next.1)

-- levels that are given to a draft with others are taken just where each fits
pub after_levels-fit : (draft : Draft) (front blinds : List Blind)
    → after_levels blinds (record draft { blinds = front })
    ≡ (if all_fit front blinds then Ok (record draft { blinds = front ++ blinds }) else Err items.Blinds)
unfolding after_levels after_line
after_levels-fit draft front [] = rw (append-nil front)
after_levels-fit draft front (blind ∷ blinds) =
    by_tests draft front blind blinds (nat_le 40 (length front)) (is_blind blind && may_follow front blind)
    (after_levels-fit draft (front ++ blind ∷ []) blinds ∙ rw (append_assoc front (blind ∷ []) blinds))
  where
    by_tests : (draft : Draft) (front : List Blind) (blind : Blind) (blinds : List Blind) (full lawful : Bool)
        → after_levels blinds (record draft { blinds = front ++ blind ∷ [] })
        ≡ (if all_fit (front ++ blind ∷ []) blinds then Ok (record draft { blinds = front ++ blind ∷ blinds })
        else Err items.Blinds)
        → ((if full || not lawful then Err items.Blinds else Ok (record draft { blinds = front ++ blind ∷ [] }))
        >>= after_levels blinds)
        ≡ (if (not full && lawful) && all_fit (front ++ blind ∷ []) blinds
        then Ok (record draft { blinds = front ++ blind ∷ blinds }) else Err items.Blinds)
    by_tests draft front blind blinds true lawful rest = refl
    by_tests draft front blind blinds false true rest = rest
    by_tests draft front blind blinds false false rest = refl

-- levels behind others are in a row and at most 40
abbrev pub are_right : List Blind → Bool
are_right blinds = nat_le (length blinds) 40 && are_levels blinds

none_fits : (front : List Blind) (blind : Blind) (blinds : List Blind) → fits front blind ≡ false
    → are_right (front ++ blind ∷ blinds) ≡ false
none_fits front blind blinds no_fit =
    ⊎_elim (λ right. absurd (by_parts right)) (λ wrong. wrong) (cases_Bool (are_right (front ++ blind ∷ blinds)))
  where
    by_parts : are_right (front ++ blind ∷ blinds) ≡ true → ⊥
    by_parts right =
        let parts = and_parts (nat_le (length (front ++ blind ∷ blinds)) 40) (are_levels (front ++ blind ∷ blinds)) right in
        let lawful = among front blind blinds parts.1 in
        let room : not (nat_le 40 (length front)) ≡ true = grind (arith, nat_tests, common_steps, parts.0) in
        let fit : fits front blind ≡ true = and_from _ _ room lawful in
        absurd cc

-- that each level fits is that all are in a row and at most 40
pub all_fit-are_right : (front blinds : List Blind) → are_right front ≡ true
    → all_fit front blinds ≡ are_right (front ++ blinds)
all_fit-are_right front [] right = rw (append-nil front) (sym right)
all_fit-are_right front (blind ∷ blinds) right =
    by_fit (all_fit-are_right (front ++ blind ∷ []) blinds) (fits front blind) refl
  where
    by_fit : (are_right (front ++ blind ∷ []) ≡ true
        → all_fit (front ++ blind ∷ []) blinds ≡ are_right ((front ++ blind ∷ []) ++ blinds))
        → (fit : Bool) → fits front blind ≡ fit
        → (fit && all_fit (front ++ blind ∷ []) blinds) ≡ are_right (front ++ blind ∷ blinds)
    by_fit rest false no_fit = sym (none_fits front blind blinds no_fit)
    by_fit rest true fit =
        let parts = and_parts (not (nat_le 40 (length front))) (is_blind blind && may_follow front blind) fit in
        let lawful = and_parts (is_blind blind) (may_follow front blind) parts.1 in
        let before = and_parts (nat_le (length front) 40) (are_levels front) right in
        let more : are_levels (front ++ blind ∷ []) ≡ true =
        are_levels_more front blind before.1 lawful.0 lawful.1 in
        let few : nat_le (length (front ++ blind ∷ [])) 40 ≡ true =
        grind (arith, nat_tests, common_steps, parts.0) in
        rest (and_from _ _ few more)
        ∙ ap are_right (append_assoc front (blind ∷ []) blinds)

-- levels of which there has to be one, as the rule says it
pub after_blinds-is_rule : (draft : Draft) (blinds : List Blind)
    → after_blinds blinds (record draft { blinds = [] })
    ≡ (if are_wrong_levels blinds then Err items.Blinds else Ok (record draft { blinds = blinds }))
unfolding after_blinds
after_blinds-is_rule draft [] = refl
after_blinds-is_rule draft (blind ∷ blinds) =
    after_levels-fit draft [] (blind ∷ blinds)
    ∙ ap (λ (fit : Bool). if fit then Ok (record draft { blinds = blind ∷ blinds }) else Err items.Blinds)
    (all_fit-are_right [] (blind ∷ blinds) refl)
    ∙ by_right (nat_le 1 (length (blind ∷ blinds))) (are_levels (blind ∷ blinds)) (nat_le (length (blind ∷ blinds)) 40)
    (grind (arith, nat_tests))
  where
    by_right : (some levels few : Bool) → some ≡ true
        → (if few && levels then Ok (record draft { blinds = blind ∷ blinds }) else Err items.Blinds)
        ≡ (if not ((some && few) && levels) then Err items.Blinds
        else Ok (record draft { blinds = blind ∷ blinds }))
    by_right false levels few is = cc
    by_right true levels false is = refl
    by_right true false true is = refl
    by_right true true true is = refl

-- the level at a place is given, and then those behind it
levels_from : (blinds : List Blind) (i : ℕ) (none : Blind) (draft : Draft) → i < length blinds
    → after_levels (drop i blinds) draft
    ≡ (after_line items.Blinds (Some (lines.Blinds (get_or blinds i none))) draft >>= after_levels (drop (i + 1) blinds))
unfolding after_levels
levels_from blinds i none draft inside = rw (drop_more blinds i none inside)

-- one level more was given
pub level_given : (blinds : List Blind) (i : ℕ) (none : Blind) (first draft new : Draft) → i < length blinds
    → after_levels (drop i blinds) draft ≡ after_levels blinds first
    → after_line items.Blinds (Some (lines.Blinds (get_or blinds i none))) draft ≡ Ok new
    → after_levels (drop (i + 1) blinds) new ≡ after_levels blinds first
level_given blinds i none first draft new inside same given =
    sym (levels_from blinds i none draft inside ∙ rw given) ∙ same

-- a level was refused
pub level_refused : (blinds : List Blind) (i : ℕ) (none : Blind) (first draft : Draft) (fault : PlanFault)
    → i < length blinds → after_levels (drop i blinds) draft ≡ after_levels blinds first
    → IsWrong (after_line items.Blinds (Some (lines.Blinds (get_or blinds i none))) draft) fault
    → IsWrong (after_levels blinds first) fault
level_refused blinds i none first draft fault inside same wrong =
    rw (sym same, levels_from blinds i none draft inside) (wrong_then
    (after_line items.Blinds (Some (lines.Blinds (get_or blinds i none))) draft) _ fault wrong)

-- all levels were given
pub levels_given : (blinds : List Blind) (i : ℕ) (first draft : Draft) → length blinds ≤ i
    → after_levels (drop i blinds) draft ≡ after_levels blinds first → after_levels blinds first ≡ Ok draft
unfolding after_levels
levels_given blinds i first draft passed same =
    let none : drop i blinds ≡ [] = grind (arith, common_steps) in
    sym same ∙ rw none

-- there is no level, or there is one
pub no_blinds : (blinds : List Blind) (draft : Draft) → true ≡ (length blinds == 0)
    → after_blinds blinds draft ≡ Err items.Blinds
unfolding after_blinds
no_blinds [] draft none = refl
no_blinds (blind ∷ blinds) draft none = absurd (grind (arith, nat_tests, none))

pub some_blinds : (blinds : List Blind) (draft : Draft) → false ≡ (length blinds == 0)
    → after_blinds blinds draft ≡ after_levels blinds draft
unfolding after_blinds
some_blinds [] draft some = let off : false ≡ true = some in cc
some_blinds (blind ∷ blinds) draft some = refl
