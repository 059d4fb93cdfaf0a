-- A simulated tournament stays on its course.
use Rattle.std.proofs.Common.{◌≡◌, refl, sym, ap, subst, ℕ, List, false}
use Rattle.std.specs.Prelude.{Option, Some, None, if◌then◌else◌}
use Rattle.std.specs.Option.{option_map_or, ForSome}
use Rattle.tournament_events.specs.declared.answer.Answer.{Answer}
use Rattle.tournament_events.specs.declared.answer.Answer.TheVariants.{Ok}
use Rattle.tournament_events.specs.declared.event.Event.{Event}
use Rattle.tournament_rules.specs.States.{State, PlayState, accepted, answer_to, is_accepted, play_effect, refusal_of, state_after}
use Rattle.tournament_rules.specs.Valid.{IsValidPlay}
use Rattle.tournament_rules.proofs.Plays.{some_so}
use Rattle.tournament_rules.proofs.Steps.{accepted_none, valid_state_after}
use Rattle.simulation_rules.specs.declared.place.SimPlace.{SimPlace}
use Rattle.simulation_rules.specs.declared.step.SimStep.TheVariants.{Take, Move, End}
use Rattle.simulation_rules.specs.Steps.{next_in_play, simulated_next}
use Rattle.simulation_rules.specs.Course.{IsOnCourse, IsUnderWay}
use Rattle.simulation_rules.proofs.Accepted.{next_is_accepted}
use Rattle.simulation_rules.proofs.CourseOfSteps.{Stays, stays_by_next}

-- what is so of a tournament that is under way until it stops
abbrev Goes : SimPlace → PlayState → Type 0
Goes place play = play.book.stopped ≡ false → IsUnderWay play.book place

after_event : (seed : List ℕ) (state : State) (place next : SimPlace) (event : Event) (found : Option PlayState)
    → ForSome found IsValidPlay → ForSome found (Goes place)
    → option_map_or (λ play. next_in_play seed state.accepted play place) found End ≡ Take event next
    → answer_to (record state { play = found }) event ≡ Ok
    → ForSome (accepted (record state { play = found }) event).play (Goes next)
after_event seed state place next event None valid goes comes ok = absurd cc
after_event seed state place next event (Some play) valid goes comes ok =
    some_so (Goes next) (play_effect play event)
    (subst (Stays play) comes (stays_by_next seed state.accepted play place (valid play refl) (goes play refl))
    (accepted_none (refusal_of play event) (ap is_accepted ok)))

-- A tournament that takes an accepted event that comes next stays on its course.
stays_where_accepted : (seed : List ℕ) (state : State) (place next : SimPlace) (event : Event)
    → IsOnCourse state place → simulated_next seed state place ≡ Take event next → answer_to state event ≡ Ok
    → IsOnCourse (state_after state event) next
stays_where_accepted seed state place next event course comes ok = record {
  valid = valid_state_after state event course.valid;
  under_way = subst (λ (answer : Answer).
      ForSome (if is_accepted answer then accepted state event else state).play (Goes next)) (sym ok)
      (after_event seed state place next event state.play course.valid.play course.under_way comes ok);
}

-- A tournament that takes the event that comes next stays on its course.
pub stays_by_event : (seed : List ℕ) (state : State) (place next : SimPlace) (event : Event) → IsOnCourse state place
    → simulated_next seed state place ≡ Take event next → IsOnCourse (state_after state event) next
stays_by_event seed state place next event course comes =
    stays_where_accepted seed state place next event course comes
    (next_is_accepted seed state place next event course comes)

after_move : (seed : List ℕ) (number : ℕ) (place next : SimPlace) (found : Option PlayState)
    → ForSome found IsValidPlay → ForSome found (Goes place)
    → option_map_or (λ play. next_in_play seed number play place) found End ≡ Move next → ForSome found (Goes next)
after_move seed number place next None valid goes comes = absurd cc
after_move seed number place next (Some play) valid goes comes =
    some_so (Goes next) play (λ going. subst (Stays play) comes
    (stays_by_next seed number play place (valid play refl) (goes play refl)))

-- A tournament whose place only moves stays on its course.
pub stays_by_move : (seed : List ℕ) (state : State) (place next : SimPlace) → IsOnCourse state place
    → simulated_next seed state place ≡ Move next → IsOnCourse state next
stays_by_move seed state place next course comes = record {
  valid = course.valid;
  under_way = after_move seed state.accepted place next state.play course.valid.play course.under_way comes;
}
