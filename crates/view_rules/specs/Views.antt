-- What a player is told of a list of events. This project's own.
use Rattle.std.specs.Prelude.{ℕ, List, [], ◌∷◌, ◌++◌, Some, if◌then◌else◌}
use Rattle.tournament_events.specs.declared.event.Event.{Event}
use Rattle.tournament_rules.specs.States.{State, first_state, answer_to, is_accepted, state_after}
use Rattle.replay_rules.specs.Replay.{events_of, items_of_bytes}
use Rattle.view_rules.specs.Shown.{Viewer}
use Rattle.view_rules.specs.Seen.{SeenState, seen_by, seen_event}
use Rattle.view_rules.specs.Spelling.{ViewLine, lines_text}
use Rattle.view_rules.specs.Lines.{lines_of_event}

-- Who tells of an event from what is seen before it and after it.
abbrev pub Teller : Type 0 → Type 0
Teller A = SeenState → Event → SeenState → List A

-- what is told of an event in a state: of a refused one nothing
abbrev pub told_of : {A : Type 0} → Teller A → Viewer → State → Event → List A
told_of tell who state event =
    if is_accepted (answer_to state event)
    then tell (seen_by who state) (seen_event event) (seen_by who (state_after state event)) else []

-- what is told of the events of a list from a state on
abbrev pub told_from : {A : Type 0} → Teller A → Viewer → State → List Event → List A
told_from tell who state [] = []
told_from tell who state (event ∷ events) =
    told_of tell who state event ++ told_from tell who (state_after state event) events

-- A player's lines of a list of events.
abbrev pub lines_seen_by : Viewer → List Event → List ViewLine
lines_seen_by who events = told_from lines_of_event who first_state events

-- The text of the player of a name of a stream of bytes: his lines of the events of its lines.
unfoldable pub view_text : List ℕ → List ℕ → List ℕ
view_text name bytes = lines_text (lines_seen_by (Some name) (events_of (items_of_bytes bytes)))
