-- What each command of the offline program puts out. This project's own.
use Rattle.std.specs.Prelude.{◌≡◌, ℕ, List, ◌++◌, Option, Some, None, Result, Ok, Err}
use Rattle.level_plan.specs.declared.line.PlanItem.{PlanItem}
use Rattle.plan_files.specs.PlanFiles.{◌>>=◌, plan_of_file}
use Rattle.replay_rules.specs.Replay.{replay_text}
use Rattle.simulation_rules.specs.Runs.{simulation_text}
use Rattle.view_rules.specs.Views.{view_text}
use Rattle.command_lines.specs.declared.command.Command.{Command}
use Rattle.command_lines.specs.declared.command.Command.TheVariants.{Replay, View, Simulate}
use Rattle.command_lines.specs.Limits.{plan_limit}
use Rattle.line_tellers.specs.Limits.{input_limit}
use Rattle.line_tellers.specs.Told.{Telling, answers_told, lines_seen}

-- The most bytes that the input of a command may have.
abbrev pub limit_of : Command → ℕ
limit_of Replay = input_limit
limit_of (View name) = input_limit
limit_of (Simulate number) = plan_limit

-- What a command makes of its input: the text that it puts out, or the first wrong item of the plan that the input is.
abbrev pub text_of : Command → List ℕ → Result (List ℕ) PlanItem
text_of Replay bytes = Ok (replay_text bytes)
text_of (View name) bytes = Ok (view_text name bytes)
text_of (Simulate number) bytes = plan_of_file bytes >>= (λ plan. Ok (simulation_text number plan))

-- What a command tells of the lines of its input, if it tells of lines.
abbrev pub telling_of : Command → Option Telling
telling_of Replay = Some answers_told
telling_of (View name) = Some (lines_seen name)
telling_of (Simulate number) = None

-- A text was put whole behind what was there.
abbrev pub IsPut : Result (List ℕ) PlanItem → List ℕ → Option (List ℕ) → Type 0
IsPut (Ok text) before now = now ≡ Some (before ++ text)
IsPut (Err item) before now = ⊥
