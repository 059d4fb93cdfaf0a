-- A draft in which nothing is wrong at the end has each item, and these make a right plan.
use Rattle.std.proofs.Common.{◌≡◌, ℕ, refl, subst, sym, true, false, length, Option, Some, None, arith}
use Rattle.std.specs.Prelude.{nat_le, Bool, ◌==◌, ◌%◌, not, nat_lt, IsSome, unwrap_or, if◌then◌else◌}
use Rattle.std.proofs.lemmas.Bool.{and_from, not-false}
use Rattle.std.proofs.lemmas.Bool.Decides.{nat_tests}
use Rattle.rulebook.proofs.Found.{some-by_test}
use Rattle.level_plan.specs.declared.line.PlanItem.{PlanItem}
use Rattle.level_plan.specs.Items.{is_between}
use Rattle.level_plan.specs.Drafts.{Draft, go_fault, is_lawful_if_given, IsLawful}
use Rattle.level_plan.specs.Plans.{PlanTerms, is_right, unit_of_level}

-- No check holds of those from one on: it does not hold, and none behind it does.
passed : (holds : Bool) (item : PlanItem) (rest : Option PlanItem) → (if holds then Some item else rest) ≡ None
    → (holds ≡ false) × (rest ≡ None)
passed true item rest none = cc
passed false item rest none = (refl, none)

-- each item of a draft is there
pub record IsComplete (draft : Draft) : Type 0 where
  pub game : IsSome draft.game
  pub tables : IsSome draft.tables
  pub seats : IsSome draft.seats
  pub stack : IsSome draft.stack
  pub buyin : IsSome draft.buyin
  pub late : IsSome draft.late
  pub shares : IsSome draft.shares
  pub level : nat_lt (length draft.blinds) (unwrap_or draft.late 0) ≡ false
  pub whole : not (unwrap_or draft.stack 0 % unit_of_level draft.blinds (unwrap_or draft.late 0) == 0) ≡ false

-- Where no check at the end holds, each item is there, `late` is a level and the stack is whole in its unit.
pub complete : (draft : Draft) → go_fault draft ≡ None → IsComplete draft
complete draft none =
    let game = passed _ _ _ none in
    let tables = passed _ _ _ game.1 in
    let seats = passed _ _ _ tables.1 in
    let stack = passed _ _ _ seats.1 in
    let buyin = passed _ _ _ stack.1 in
    let late = passed _ _ _ buyin.1 in
    let blinds = passed _ _ _ late.1 in
    let shares = passed _ _ _ blinds.1 in
    let level = passed _ _ _ shares.1 in
    let whole = passed _ _ _ level.1 in
    record {
      game = some-by_test draft.game game.0;
      tables = some-by_test draft.tables tables.0;
      seats = some-by_test draft.seats seats.0;
      stack = some-by_test draft.stack stack.0;
      buyin = some-by_test draft.buyin buyin.0;
      late = some-by_test draft.late late.0;
      shares = some-by_test draft.shares shares.0;
      level = level.0;
      whole = whole.0;
    }

lawful : {A : Type 0} (o : Option A) (x : A) (test : A → Bool) → o ≡ Some x → is_lawful_if_given test o ≡ true
    → test x ≡ true
lawful o x test is holds = let P : Option _ → Type 0 = λ o. is_lawful_if_given test o ≡ true in subst P is holds

is_level : (late levels : ℕ) → is_between 1 40 late ≡ true → nat_lt levels late ≡ false
    → is_between 1 levels late ≡ true
is_level late levels between few = grind (arith, nat_tests)

few_wagers : (given : Option ℕ) (cap : ℕ) → is_lawful_if_given (is_between 1 9) given ≡ true
    → cap ≡ unwrap_or given 0 → nat_le cap 9 ≡ true
few_wagers None cap lawful_if is = rw is refl
few_wagers (Some n) cap lawful_if is =
    let few : nat_le n 9 ≡ true = grind (arith, nat_tests) in rw is few

-- the items of a plan are those of the draft
pub record IsPlanOf (draft : Draft) (plan : PlanTerms) : Type 0 where
  pub game : draft.game ≡ Some plan.game
  pub tables : draft.tables ≡ Some plan.tables
  pub seats : draft.seats ≡ Some plan.seats
  pub stack : draft.stack ≡ Some plan.stack
  pub buyin : draft.buyin ≡ Some plan.buyin
  pub late : draft.late ≡ Some plan.late
  pub blinds : plan.blinds ≡ draft.blinds
  pub shares : draft.shares ≡ Some plan.shares
  pub cap : plan.cap ≡ unwrap_or draft.cap 0

-- The items of a complete draft make a right plan.
pub right : (draft : Draft) (plan : PlanTerms) → IsLawful draft → IsComplete draft → IsPlanOf draft plan
    → is_right plan ≡ true
right draft plan is all of =
    let level = rw (of.late, sym of.blinds) at all.level in
    let whole = rw (of.stack, of.late, sym of.blinds) at all.whole in
    and_from _ _ (lawful draft.tables plan.tables _ of.tables is.tables)
    (and_from _ _ (lawful draft.seats plan.seats _ of.seats is.seats)
    (and_from _ _ (lawful draft.stack plan.stack _ of.stack is.stack)
    (and_from _ _ (lawful draft.buyin plan.buyin _ of.buyin is.buyin)
    (and_from _ _ (is_level plan.late (length plan.blinds) (lawful draft.late plan.late _ of.late is.late) level)
    (and_from _ _ (rw of.blinds is.level_count)
    (and_from _ _ (rw of.blinds is.levels)
    (and_from _ _ (lawful draft.shares plan.shares _ of.shares is.shares)
    (and_from _ _ (few_wagers draft.cap plan.cap is.cap of.cap)
    (not-false _ whole)))))))))
