-- The written commands. This project's own.
use Rattle.std.specs.Prelude.{ℕ, List, [], ◌∷◌, codes, Option, Some, None, option_and_then, option_map, if◌then◌else◌}
use Rattle.std.specs.Str.{bytes_eq}
use Rattle.floor_text.specs.Numbers.{number_of}
use Rattle.level_plan.specs.Items.{is_between}
use Rattle.line_words.specs.Fields.{name_of}
use Rattle.command_lines.specs.Limits.{last_port, most_desks}
use Rattle.command_lines.specs.declared.command.Command.{Command}
use Rattle.command_lines.specs.declared.command.Command.TheVariants.{Replay, View, Simulate}
use Rattle.command_lines.specs.declared.service.Service.{Service}

-- The command of the program that runs offline that some words are, if they are a written one: the word `replay` alone,
-- the word `view` and a name, or the word `simulate` and a number, each as a line has it.
abbrev pub command_of : List (List ℕ) → Option Command
command_of [] = None
command_of (word ∷ []) = if bytes_eq word (codes "replay") then Some Replay else None
command_of (word ∷ value ∷ []) =
    if bytes_eq word (codes "view") then option_map View (name_of value) else
    (if bytes_eq word (codes "simulate") then option_map Simulate (number_of value) else None)
command_of (word ∷ value ∷ another ∷ words) = None

-- a number from 1 to a greatest one, as a line has it
abbrev pub number_up_to : ℕ → List ℕ → Option ℕ
number_up_to most word =
    option_and_then (λ number. if is_between 1 most number then Some number else None) (number_of word)

-- The command of the server that some words are, if they are the written one: the word `serve`, a port from 1 to 65,535
-- and a number of desks from 1 to 128, each as a line has it.
abbrev pub service_of : List (List ℕ) → Option Service
service_of (word ∷ port ∷ desks ∷ []) =
    if bytes_eq word (codes "serve")
    then option_and_then (λ port. option_map (λ desks. record { port = port; desks = desks })
    (number_up_to most_desks desks)) (number_up_to last_port port)
    else None
service_of words = None
