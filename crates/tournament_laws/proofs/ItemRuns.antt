-- Items in order are a run of their events.
use Rattle.std.proofs.Common.{◌≡◌, refl, ap, List, [], ◌∷◌}
use Rattle.std.specs.Prelude.{Option, Some, None, map}
use Rattle.tournament_events.specs.declared.event.Event.{Event as EventOfLine}
use Rattle.tournament_events.specs.declared.event.Item.{Item}
use Rattle.tournament_events.specs.declared.event.Item.TheVariants.{Event, Note}
use Rattle.tournament_rules.specs.States.{State}
use Rattle.tournament_rules.specs.States.{answer_to, state_after}
use Rattle.tournament_rules.specs.States.{run, answers}
use Rattle.replay_rules.specs.Replay.{answers_to_items, state_after_items, events_of, item_of_event}

-- the state after items is the state after their events
pub state_after_items_is_run : (state : State) (items : List (Option Item)) → state_after_items state items
    ≡ run state (events_of items)
state_after_items_is_run state [] = refl
state_after_items_is_run state (None ∷ items) = state_after_items_is_run state items
state_after_items_is_run state (Some Note ∷ items) = state_after_items_is_run state items
state_after_items_is_run state (Some (Event event) ∷ items) = state_after_items_is_run (state_after state event) items

-- the answers to lines that all hold events are the answers to these
pub answers_to_events : (state : State) (events : List EventOfLine)
    → answers_to_items state (map item_of_event events) ≡ answers state events
answers_to_events state [] = refl
answers_to_events state (event ∷ events) =
    ap (λ more. answer_to state event ∷ more) (answers_to_events (state_after state event) events)
