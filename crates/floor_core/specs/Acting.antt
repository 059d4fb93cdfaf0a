-- Why an act is refused by who is asked last. This project's own.
use Rattle.std.specs.Prelude.{ℕ, List, [], ◌++◌, Option}
use Rattle.std.specs.Option.{option_map_or}
use Rattle.rulebook.specs.Checks.{first_that_holds}
use Rattle.floor_text.specs.declared.refusal.Refusal.{Refusal}
use Rattle.betting_round.specs.declared.act.Act.{Act}
use Rattle.tournament_events.specs.declared.event.Event.TheVariants as events
use Rattle.tournament_rules.specs.Checks.{hand_checks, playing_checks}
use Rattle.tournament_rules.specs.States.{PlayState, hand_at}

-- why an act is refused where the tournament goes on and the name is known, if it is: by its table, or by its hand
unfoldable pub refusal_by_hand : PlayState → ℕ → List ℕ → Act → Option Refusal
refusal_by_hand play table name act =
    first_that_holds
    (playing_checks play.book table
    ++ option_map_or (λ hand. hand_checks hand (events.Act table name act)) (hand_at play table) [])
