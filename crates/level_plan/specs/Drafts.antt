-- What has been given of a plan, and what is wrong with a line or with the whole. This project's own.
use Rattle.std.specs.Prelude.{◌≡◌, ℕ, ◌%◌, Bool, true, ◌==◌, ◌&&◌, ◌||◌, not, nat_le, nat_lt, List, [], ◌∷◌, ◌++◌, length, Option, None, Some, is_some, is_none, unwrap_or, if◌then◌else◌}
use Rattle.std.specs.Option.{option_map_or}
use Rattle.rulebook.specs.Checks.{first_that_holds}
use Rattle.card_set.specs.declared.game.Game.{Game}
use Rattle.card_set.specs.declared.game.Game.TheVariants.{Holdem}
use Rattle.level_plan.specs.declared.line.PlanItem.{PlanItem}
use Rattle.level_plan.specs.declared.line.PlanItem.TheVariants as items
use Rattle.level_plan.specs.declared.line.PlanLine.{PlanLine}
use Rattle.level_plan.specs.declared.line.PlanLine.TheVariants as lines
use Rattle.level_plan.specs.declared.line.PlanFault.{PlanFault}
use Rattle.level_plan.specs.declared.line.PlanFault.TheVariants as faults
use Rattle.rulebook.specs.Limits.{most_seats, most_tables}
use Rattle.level_plan.specs.Limits.{fewest_seats, greatest_amount, most_levels, most_wagers}
use Rattle.level_plan.specs.declared.plan.Blind.{Blind}
use Rattle.level_plan.specs.Items.{is_between, is_blind, may_follow, are_levels, are_shares}
use Rattle.level_plan.specs.Plans.{PlanTerms, unit_of_level}

-- What the accepted lines have given so far.
pub record Draft : Type 0 where
  pub game : Option Game
  pub tables : Option ℕ
  pub seats : Option ℕ
  pub stack : Option ℕ
  pub buyin : Option ℕ
  pub late : Option ℕ
  pub blinds : List Blind
  pub shares : Option (List ℕ)
  pub cap : Option ℕ

-- Before any line nothing is given.
abbrev pub empty_draft : Draft
empty_draft = record {
  game = None;
  tables = None;
  seats = None;
  stack = None;
  buyin = None;
  late = None;
  blinds = [];
  shares = None;
  cap = None;
}

-- The item that a line gives.
abbrev pub item_of_line : PlanLine → PlanItem
item_of_line (lines.Game game) = items.Game
item_of_line (lines.Tables n) = items.Tables
item_of_line (lines.Seats n) = items.Seats
item_of_line (lines.Stack n) = items.Stack
item_of_line (lines.Buyin n) = items.Buyin
item_of_line (lines.Late n) = items.Late
item_of_line (lines.Blinds blind) = items.Blinds
item_of_line (lines.Shares shares) = items.Shares
item_of_line (lines.Limit n) = items.Limit

-- A line is wrong where its item was given before (blinds: 40 times), or where what it gives is not lawful.
abbrev pub is_wrong_line : Draft → PlanLine → Bool
is_wrong_line draft (lines.Game game) = is_some draft.game
is_wrong_line draft (lines.Tables n) = is_some draft.tables || not (is_between 1 most_tables n)
is_wrong_line draft (lines.Seats n) = is_some draft.seats || not (is_between fewest_seats most_seats n)
is_wrong_line draft (lines.Stack n) = is_some draft.stack || not (is_between 1 greatest_amount n)
is_wrong_line draft (lines.Buyin n) = is_some draft.buyin || nat_lt greatest_amount n
is_wrong_line draft (lines.Late n) = is_some draft.late || not (is_between 1 most_levels n)
is_wrong_line draft (lines.Blinds blind) =
    nat_le most_levels (length draft.blinds) || not (is_blind blind && may_follow draft.blinds blind)
is_wrong_line draft (lines.Shares shares) = is_some draft.shares || not (are_shares shares)
is_wrong_line draft (lines.Limit n) = is_some draft.cap || not (is_between 1 most_wagers n)

-- The wrong item of a line, where the line is wrong.
abbrev pub line_fault : Draft → PlanLine → Option PlanItem
line_fault draft line = if is_wrong_line draft line then Some (item_of_line line) else None

-- What a line that is not wrong makes of the draft.
abbrev pub draft_after : Draft → PlanLine → Draft
draft_after draft (lines.Game game) = record draft { game = Some game }
draft_after draft (lines.Tables n) = record draft { tables = Some n }
draft_after draft (lines.Seats n) = record draft { seats = Some n }
draft_after draft (lines.Stack n) = record draft { stack = Some n }
draft_after draft (lines.Buyin n) = record draft { buyin = Some n }
draft_after draft (lines.Late n) = record draft { late = Some n }
draft_after draft (lines.Blinds blind) = record draft { blinds = draft.blinds ++ blind ∷ [] }
draft_after draft (lines.Shares shares) = record draft { shares = Some shares }
draft_after draft (lines.Limit n) = record draft { cap = Some n }

-- The plan that the draft's items make, once none is missing. The fixed limit may be left out.
abbrev pub plan_of : Draft → PlanTerms
plan_of draft = record {
  game = unwrap_or draft.game Holdem;
  tables = unwrap_or draft.tables 0;
  seats = unwrap_or draft.seats 0;
  stack = unwrap_or draft.stack 0;
  buyin = unwrap_or draft.buyin 0;
  late = unwrap_or draft.late 0;
  blinds = draft.blinds;
  shares = unwrap_or draft.shares [];
  cap = unwrap_or draft.cap 0;
}

-- What is wrong at the end of a plan, in order: each item where it is missing; then `late`, where there is no such
-- level; then `stack`, where it is no multiple of that level's unit.
abbrev pub go_checks : Draft → List (PlanItem × Bool)
go_checks draft =
    let plan : PlanTerms = plan_of draft in
    (items.Game, is_none draft.game) ∷
    (items.Tables, is_none draft.tables) ∷
    (items.Seats, is_none draft.seats) ∷
    (items.Stack, is_none draft.stack) ∷
    (items.Buyin, is_none draft.buyin) ∷
    (items.Late, is_none draft.late) ∷
    (items.Blinds, length draft.blinds == 0) ∷
    (items.Shares, is_none draft.shares) ∷
    (items.Late, nat_lt (length plan.blinds) plan.late) ∷
    (items.Stack, not (plan.stack % unit_of_level plan.blinds plan.late == 0)) ∷ []

-- The wrong item at the end of a plan is the first that is.
abbrev pub go_fault : Draft → Option PlanItem
go_fault draft = first_that_holds (go_checks draft)

-- A fault is the item that was found wrong; memory runs out only where none was.
abbrev pub IsFault : Option PlanItem → PlanFault → Type 0
IsFault found (faults.Wrong item) = found ≡ Some item
IsFault found faults.NoMemory = found ≡ None

-- What was given, if it was, passes the test.
abbrev pub is_lawful_if_given : {A : Type 0} → (A → Bool) → Option A → Bool
is_lawful_if_given test given = option_map_or test given true

-- Each item of a draft is lawful where it was given.
pub record IsLawful (draft : Draft) : Type 0 where
  pub tables : is_lawful_if_given (is_between 1 most_tables) draft.tables ≡ true
  pub seats : is_lawful_if_given (is_between fewest_seats most_seats) draft.seats ≡ true
  pub stack : is_lawful_if_given (is_between 1 greatest_amount) draft.stack ≡ true
  pub buyin : is_lawful_if_given (λ n. nat_le n greatest_amount) draft.buyin ≡ true
  pub late : is_lawful_if_given (is_between 1 most_levels) draft.late ≡ true
  pub levels : are_levels draft.blinds ≡ true
  pub level_count : nat_le (length draft.blinds) most_levels ≡ true
  pub shares : is_lawful_if_given are_shares draft.shares ≡ true
  pub cap : is_lawful_if_given (is_between 1 most_wagers) draft.cap ≡ true
