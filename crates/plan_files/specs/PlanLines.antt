-- The lines of a plan, and the plan that lines make. This project's own.
use Rattle.std.specs.Prelude.{ℕ, nat_lt, Option, Some, None, List, [], ◌∷◌, ◌++◌, map, Result, Err, if◌then◌else◌}
use Rattle.level_plan.specs.declared.line.PlanItem.{PlanItem}
use Rattle.level_plan.specs.declared.line.PlanLine.{PlanLine}
use Rattle.level_plan.specs.declared.line.PlanLine.TheVariants.{Game, Tables, Seats, Stack, Buyin, Late, Blinds, Shares, Limit}
use Rattle.level_plan.specs.Drafts.{Draft, is_wrong_line, item_of_line, draft_after, go_fault, plan_of}
use Rattle.level_plan.specs.Plans.{PlanTerms}
use Rattle.plan_files.specs.PlanFiles.{unless}

-- the fixed limit that a plan gives: none where its cap is 0
abbrev pub limit_given : ℕ → Option ℕ
limit_given cap = if nat_lt 0 cap then Some cap else None

-- the line of a fixed limit, where there is one
abbrev pub limit_lines : ℕ → List PlanLine
limit_lines cap = if nat_lt 0 cap then Limit cap ∷ [] else []

-- a plan as a draft of which all is given, and the fixed limit where the plan has one
abbrev pub whole_draft : PlanTerms → Draft
whole_draft plan = record {
  game = Some plan.game;
  tables = Some plan.tables;
  seats = Some plan.seats;
  stack = Some plan.stack;
  buyin = Some plan.buyin;
  late = Some plan.late;
  blinds = plan.blinds;
  shares = Some plan.shares;
  cap = limit_given plan.cap;
}

-- the lines of a plan, in the order of its items; that of its fixed limit is the last, where it has one
abbrev pub lines_of_plan : PlanTerms → List PlanLine
lines_of_plan plan =
    Game plan.game ∷
    Tables plan.tables ∷
    Seats plan.seats ∷
    Stack plan.stack ∷
    Buyin plan.buyin ∷
    Late plan.late ∷
    map Blinds plan.blinds ++ Shares plan.shares ∷ limit_lines plan.cap

-- what a draft comes to that is given lines and then `go`: the plan, or else the first wrong item
abbrev pub plan_of_lines : Draft → List PlanLine → Result PlanTerms PlanItem
plan_of_lines draft [] = unless (go_fault draft) (plan_of draft)
plan_of_lines draft (line ∷ lines) =
    if is_wrong_line draft line then Err (item_of_line line) else plan_of_lines (draft_after draft line) lines
