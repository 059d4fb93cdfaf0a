-- Each line makes at most one accepted event, and leaves a valid state.
use Rattle.std.proofs.Common.{◌≡◌, ◌≤◌, ◌+◌, Bool, true, false, arith}
use Rattle.std.specs.Prelude.{Option, Some, None, cond}
use Rattle.tournament_events.specs.declared.event.Item.{Item}
use Rattle.tournament_events.specs.declared.event.Item.TheVariants.{Event, Note}
use Rattle.tournament_rules.specs.States.{State, answer_to, accepted, is_accepted}
use Rattle.replay_rules.specs.Replay.{state_after_item}
use Rattle.tournament_rules.specs.Valid.{IsValidState}
use Rattle.tournament_rules.proofs.Steps.{valid_state_after}

by_answer : (state after : State) (b : Bool) → after.accepted ≡ state.accepted + 1
    → (cond b after state).accepted ≤ state.accepted + 1
by_answer state after true more = omega arith
by_answer state after false more = omega arith

-- an item adds at most one to the events accepted
pub counted_item : (state : State) (item : Option Item) → (state_after_item state item).accepted ≤ state.accepted + 1
counted_item state None = omega arith
counted_item state (Some Note) = omega arith
counted_item state (Some (Event event)) =
    by_answer state (accepted state event) (is_accepted (answer_to state event)) (omega arith)

-- A state is valid after an item if it was before.
pub valid_item : (state : State) (item : Option Item) → IsValidState state → IsValidState (state_after_item state item)
valid_item state None valid = valid
valid_item state (Some Note) valid = valid
valid_item state (Some (Event event)) valid = valid_state_after state event valid
