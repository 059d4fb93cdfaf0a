-- What is put of a stream of the first edition.
use Rattle.std.proofs.Common.{◌≡◌, ◌∙◌, sym, ap, subst, ℕ, true, List, ◌++◌}
use Rattle.std.specs.Prelude.{Option, Some, None, IfSome}
use Rattle.command_lines.specs.declared.command.Command.{Command}
use Rattle.command_lines.specs.declared.command.Command.TheVariants.{Replay}
use Rattle.floor_offline.specs.Commands.{IsPut, text_of}
use Rattle.first_edition.specs.First.{are_first_lines, first_replay_text}
use Rattle.first_edition.proofs.Same.{text_same}

-- What a replay puts of it is what it put then.
pub first_put : (command : Command) (left written after : Option (List ℕ)) → Replay ≡ command
    → IfSome left (λ bytes. IfSome written (λ before. IsPut (text_of command bytes) before after))
    → IfSome left (λ bytes. are_first_lines bytes ≡ true
    → IfSome written (λ before. after ≡ Some (before ++ first_replay_text bytes)))
first_put command None written after is put = tt
first_put command (Some bytes) None after is put = λ all. tt
first_put command (Some bytes) (Some before) after is put = λ all.
    subst (λ (command : Command). IsPut (text_of command bytes) before after) (sym is) put
    ∙ ap (λ (text : List ℕ). Some (before ++ text)) (text_same bytes all)
