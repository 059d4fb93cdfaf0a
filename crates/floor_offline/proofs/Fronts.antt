-- What was told of the bytes taken is a front of a command's text.
use Rattle.std.proofs.Common.{◌≡◌, ℕ, ap, ◌∙◌, List, take, refl}
use Rattle.std.specs.Prelude.{Option, IfSome, Ok}
use Rattle.command_lines.specs.declared.command.Command.{Command}
use Rattle.command_lines.specs.declared.command.Command.TheVariants.{Replay, View, Simulate}
use Rattle.command_lines.specs.declared.fault.Fault.TheVariants as faults
use Rattle.floor_offline.specs.Commands.{telling_of, text_of}
use Rattle.line_tellers.specs.Promise.{IsToldOf, TakesAndPuts}
use Rattle.line_tellers.proofs.AnswersTold.{stream_answered}
use Rattle.line_tellers.proofs.Running.{both_from}
use Rattle.line_tellers.proofs.ViewTold.{stream_seen}
use Rattle.replay_rules.specs.Replay.{replay_text}
use Rattle.view_rules.specs.Views.{view_text}

-- A front of what a command tells of the lines of the bytes taken is a front of its text of them.
pub front_of_text : (command : Command) (first left before now : Option (List ℕ))
    → IfSome (telling_of command) (λ telling. TakesAndPuts (IsToldOf faults.Write telling) first left before now)
    → IfSome (telling_of command) (λ _. TakesAndPuts
    (λ taken text. (n : ℕ) × (whole : List ℕ) × (text_of command taken ≡ Ok whole) × (text ≡ take n whole))
    first left before now)
front_of_text Replay first left before now told =
    both_from first before
    (λ bytes text had. (
      had.0,
      had.1,
      had.2,
      had.3,
      (
        had.4.0,
        replay_text (take had.0 bytes),
        refl,
        had.4.1 ∙ ap (take had.4.0) (stream_answered (take had.0 bytes)),
      ),
    ))
    told
front_of_text (View name) first left before now told =
    both_from first before
    (λ bytes text had. (
      had.0,
      had.1,
      had.2,
      had.3,
      (
        had.4.0,
        view_text name (take had.0 bytes),
        refl,
        had.4.1 ∙ ap (take had.4.0) (stream_seen name (take had.0 bytes)),
      ),
    ))
    told
front_of_text (Simulate number) first left before now told = tt
