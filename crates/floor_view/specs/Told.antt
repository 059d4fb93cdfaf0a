-- The text of what tells of an event. This project's own.
use Rattle.std.specs.Prelude.{ℕ, List, map}
use Rattle.table_engine.specs.declared.start.HandStart.{HandStart}
use Rattle.tournament_events.specs.declared.event.Event.{Event}
use Rattle.tournament_rules.specs.States.{State, players_of}
use Rattle.view_rules.specs.Shown.{Viewer}
use Rattle.view_rules.specs.Seen.{seen_by, seen_event}
use Rattle.view_rules.specs.Spelling.{Floor, lines_text}
use Rattle.view_rules.specs.Lines.{floor_lines, lines_of_event}
use Rattle.view_rules.specs.Views.{told_of}
use Rattle.floor_view.specs.Stacks.{stack_now}

-- the text of what tells a player, or nobody, of an event in a state: of a refused one nothing
unfoldable pub text_of : Viewer → State → Event → List ℕ
text_of who state event = lines_text (told_of lines_of_event who state event)

-- the text of what tells them of an event that made one state of another
unfoldable pub text_between : Viewer → State → Event → State → List ℕ
text_between who before event after =
    lines_text (lines_of_event (seen_by who before) (seen_event event) (seen_by who after))

-- the text that tells that a hand which began so is settled, with the stacks of its players at rest
abbrev pub settled_text : Event → HandStart → State → List ℕ
settled_text event start state =
    lines_text (map Floor (floor_lines event 0 (map (stack_now (players_of state) start.table) start.seats)))
