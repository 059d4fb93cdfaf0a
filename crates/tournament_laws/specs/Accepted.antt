-- Which events of a list are accepted where they stand. This project's own.
use Rattle.std.specs.Prelude.{ℕ, ◌+◌, Bool, false, ◌&&◌, ◌||◌, if◌then◌else◌, List, [], ◌∷◌}
use Rattle.std.specs.List.{list_all}
use Rattle.tournament_events.specs.declared.event.Event.{Event}
use Rattle.tournament_rules.specs.States.{State, answer_to, answers, is_accepted, state_after}

-- whether some event of a list that passes a test is accepted where it stands
abbrev pub is_any_accepted : (Event → Bool) → State → List Event → Bool
is_any_accepted test state [] = false
is_any_accepted test state (event ∷ events) =
    test event && is_accepted (answer_to state event) || is_any_accepted test (state_after state event) events

-- how many events of a list that pass a test are accepted where they stand
abbrev pub how_many_accepted : (Event → Bool) → State → List Event → ℕ
how_many_accepted test state [] = 0
how_many_accepted test state (event ∷ events) = (if test event && is_accepted (answer_to state event) then 1 else 0)
    + how_many_accepted test (state_after state event) events

-- whether every event of a list is accepted where it stands
abbrev pub are_accepted : State → List Event → Bool
are_accepted state events = list_all is_accepted (answers state events)
