-- Each item of a plan's draft is lawful, and a draft that is complete makes a right plan.
use Rattle.std.proofs.Common.{◌≡◌, refl, ℕ, Bool, true, false, ◌&&◌, ◌||◌, ◌<◌, [], ◌∷◌, ◌++◌, length, arith}
use Rattle.std.specs.Prelude.{not, nat_le, nat_lt, Option, Some, None, is_none, unwrap_or}
use Rattle.std.proofs.lemmas.Bool.{and_parts, and_from}
use Rattle.std.proofs.lemmas.Bool.Decides.{nat_tests}
use Rattle.rulebook.proofs.Checks.{none_holds}
use Rattle.level_plan.specs.declared.line.PlanLine.{PlanLine}
use Rattle.level_plan.specs.declared.line.PlanLine.TheVariants as lines
use Rattle.level_plan.specs.Items.{is_between, is_blind, may_follow, are_levels, are_shares}
use Rattle.level_plan.specs.Limits.{greatest_amount}
use Rattle.level_plan.specs.Plans.{is_right}
use Rattle.level_plan.specs.Drafts.{Draft, empty_draft, is_wrong_line, draft_after, plan_of, go_checks, go_fault, is_lawful_if_given, IsLawful}
use Rattle.level_plan.proofs.Levels.{are_levels_more, level_count_more}
use Rattle.tournament_rules.proofs.Passed.{is_so}

second_lawful : (given lawful : Bool) → (given || not lawful) ≡ false → lawful ≡ true
second_lawful true lawful right = cc
second_lawful false true right = refl
second_lawful false false right = cc

-- The items of a draft, one by one.
items : (draft : Draft) → is_lawful_if_given (is_between 1 64) draft.tables ≡ true
    → is_lawful_if_given (is_between 2 10) draft.seats ≡ true
    → is_lawful_if_given (is_between 1 greatest_amount) draft.stack ≡ true
    → is_lawful_if_given (λ n. nat_le n greatest_amount) draft.buyin ≡ true
    → is_lawful_if_given (is_between 1 40) draft.late ≡ true → are_levels draft.blinds ≡ true
    → nat_le (length draft.blinds) 40 ≡ true → is_lawful_if_given are_shares draft.shares ≡ true
    → is_lawful_if_given (is_between 1 9) draft.cap ≡ true → IsLawful draft
items draft tables seats stack buyin late levels level_count shares cap = record {
  tables = tables;
  seats = seats;
  stack = stack;
  buyin = buyin;
  late = late;
  levels = levels;
  level_count = level_count;
  shares = shares;
  cap = cap;
}

-- Nothing is unlawful before any line.
pub lawful_empty : IsLawful empty_draft
lawful_empty = items empty_draft refl refl refl refl refl refl refl refl refl

-- A line that is not wrong leaves each item lawful.
pub lawful_line : (draft : Draft) (line : PlanLine) → IsLawful draft → is_wrong_line draft line ≡ false
    → IsLawful (draft_after draft line)
lawful_line draft (lines.Game game) l right =
    items (record draft { game = Some game }) l.tables l.seats l.stack l.buyin l.late l.levels l.level_count l.shares l.cap
lawful_line draft (lines.Tables n) l right =
    items (record draft { tables = Some n })
    (second_lawful _ _ right) l.seats l.stack l.buyin l.late l.levels l.level_count l.shares l.cap
lawful_line draft (lines.Seats n) l right =
    items (record draft { seats = Some n })
    l.tables (second_lawful _ _ right) l.stack l.buyin l.late l.levels l.level_count l.shares l.cap
lawful_line draft (lines.Stack n) l right =
    items (record draft { stack = Some n })
    l.tables l.seats (second_lawful _ _ right) l.buyin l.late l.levels l.level_count l.shares l.cap
lawful_line draft (lines.Buyin n) l right =
    items (record draft { buyin = Some n })
    l.tables l.seats l.stack (at_most _ n greatest_amount right) l.late l.levels l.level_count l.shares l.cap
  where
    at_most : (given : Bool) (n most : ℕ) → (given || nat_lt most n) ≡ false → nat_le n most ≡ true
    at_most given n most right = grind (arith, nat_tests)
lawful_line draft (lines.Late n) l right =
    items (record draft { late = Some n })
    l.tables l.seats l.stack l.buyin (second_lawful _ _ right) l.levels l.level_count l.shares l.cap
lawful_line draft (lines.Blinds blind) l right =
    let lawful = is_blind blind && may_follow draft.blinds blind in
    let parts = and_parts (is_blind blind) (may_follow draft.blinds blind) (second_lawful _ lawful right) in
    items (record draft { blinds = draft.blinds ++ blind ∷ [] }) l.tables l.seats l.stack l.buyin l.late
    (are_levels_more draft.blinds blind l.levels parts.0 parts.1)
    (level_count_more draft.blinds blind (room (length draft.blinds) lawful right))
    l.shares l.cap
  where
    room : (count : ℕ) (lawful : Bool) → (nat_le 40 count || not lawful) ≡ false → count < 40
    room count lawful right = grind (arith, nat_tests)
lawful_line draft (lines.Shares shares) l right =
    items (record draft { shares = Some shares })
    l.tables l.seats l.stack l.buyin l.late l.levels l.level_count (second_lawful _ _ right) l.cap
lawful_line draft (lines.Limit n) l right =
    items (record draft { cap = Some n })
    l.tables l.seats l.stack l.buyin l.late l.levels l.level_count l.shares (second_lawful _ _ right)

-- What is lawful where it was given, and was given, is lawful.
given_lawful : {A : Type 0} (test : A → Bool) (given : Option A) (default : A) → not (is_none given) ≡ true
    → is_lawful_if_given test given ≡ true → test (unwrap_or given default) ≡ true
given_lawful test None default there lawful = cc
given_lawful test (Some item) default there lawful = lawful

-- The cap of a plan is at most the greatest, where it was given and where not.
few_wagers : (given : Option ℕ) → is_lawful_if_given (is_between 1 9) given ≡ true
    → nat_le (unwrap_or given 0) 9 ≡ true
few_wagers None lawful = refl
few_wagers (Some n) lawful = grind (arith, nat_tests)

-- A draft with lawful items that is complete makes a right plan.
pub right_plan : (draft : Draft) → IsLawful draft → go_fault draft ≡ None → is_right (plan_of draft) ≡ true
right_plan draft lawful complete =
    let all = none_holds (go_checks draft) complete in
    let game = and_parts _ _ all in
    let tables = and_parts _ _ game.1 in
    let seats = and_parts _ _ tables.1 in
    let stack = and_parts _ _ seats.1 in
    let buyin = and_parts _ _ stack.1 in
    let late = and_parts _ _ buyin.1 in
    let blinds = and_parts _ _ late.1 in
    let shares = and_parts _ _ blinds.1 in
    let last = and_parts _ _ shares.1 in
    let whole = and_parts _ _ last.1 in
    let level = given_lawful (is_between 1 40) draft.late 0 late.0 lawful.late in
    and_from _ _ (given_lawful (is_between 1 64) draft.tables 0 tables.0 lawful.tables)
    (and_from _ _ (given_lawful (is_between 2 10) draft.seats 0 seats.0 lawful.seats)
    (and_from _ _ (given_lawful (is_between 1 greatest_amount) draft.stack 0 stack.0 lawful.stack)
    (and_from _ _ (given_lawful (λ n. nat_le n greatest_amount) draft.buyin 0 buyin.0 lawful.buyin)
    (and_from _ _ (within (unwrap_or draft.late 0) (length draft.blinds) level last.0)
    (and_from _ _ lawful.level_count
    (and_from _ _ lawful.levels
    (and_from _ _ (given_lawful are_shares draft.shares [] shares.0 lawful.shares)
    (and_from _ _ (few_wagers draft.cap lawful.cap)
    (is_so _ whole.0)))))))))
  where
    within : (late count : ℕ) → is_between 1 40 late ≡ true → not (nat_lt count late) ≡ true
        → is_between 1 count late ≡ true
    within late count level last = grind (arith, nat_tests)
