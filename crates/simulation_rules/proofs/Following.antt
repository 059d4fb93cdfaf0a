-- The events that are left, step by step.
use Rattle.std.proofs.Common.{◌≡◌, ◌∙◌, refl, sym, ap, ℕ, zero, suc, ◌≤◌, List, [], ◌∷◌, arith}
use Rattle.std.specs.List.{All}
use Rattle.std.proofs.lemmas.List.Elements.{All-cons, All-nil}
use Rattle.tournament_events.specs.declared.answer.Answer.{Answer}
use Rattle.tournament_events.specs.declared.answer.Answer.TheVariants.{Ok}
use Rattle.tournament_events.specs.declared.event.Event.{Event}
use Rattle.tournament_rules.specs.States.{State, answer_to, answers, state_after}
use Rattle.simulation_rules.specs.declared.place.SimPlace.{SimPlace}
use Rattle.simulation_rules.specs.declared.step.SimStep.{SimStep}
use Rattle.simulation_rules.specs.declared.step.SimStep.TheVariants.{Take, Move, End}
use Rattle.simulation_rules.specs.Steps.{simulated_next}
use Rattle.simulation_rules.specs.Course.{IsOnCourse}
use Rattle.simulation_rules.specs.Effort.{effort}
use Rattle.simulation_rules.specs.Left.{events_left}
use Rattle.simulation_rules.specs.Runs.{events_by, events_from}
use Rattle.simulation_rules.proofs.Accepted.{next_is_accepted}
use Rattle.simulation_rules.proofs.Falling.{falls_by_event, falls_by_move}
use Rattle.simulation_rules.proofs.OnCourse.{stays_by_event, stays_by_move}

-- A tournament that may take no step is at its end.
pub none_comes : (seed : List ℕ) (state : State) (place : SimPlace) → IsOnCourse state place
    → effort state place ≡ 0 → simulated_next seed state place ≡ End
none_comes seed state place course none = by_step (simulated_next seed state place) refl
  where
    by_step : (step : SimStep) → simulated_next seed state place ≡ step → simulated_next seed state place ≡ End
    by_step (Take event next) comes =
        let less = falls_by_event seed state place next event course comes in absurd (omega (arith, less, none))
    by_step (Move next) comes =
        let less = falls_by_move seed state place next course comes in absurd (omega (arith, less, none))
    by_step End comes = comes

-- Any two numbers of steps that are enough make the same events.
pub both_enough : (seed : List ℕ) (one other : ℕ) (state : State) (place : SimPlace) → IsOnCourse state place
    → effort state place ≤ one → effort state place ≤ other
    → events_from seed one state place ≡ events_from seed other state place
both_enough seed zero zero state place course first second = refl
both_enough seed zero (suc other) state place course first second =
    sym (ap (events_by (events_from seed other) state)
    (none_comes seed state place course (omega (arith, first))))
both_enough seed (suc one) zero state place course first second =
    ap (events_by (events_from seed one) state) (none_comes seed state place course (omega (arith, second)))
both_enough seed (suc one) (suc other) state place course first second =
    by_step (λ later next kept less more. both_enough seed one other later next kept less more)
    (simulated_next seed state place) refl
  where
    by_step : ((later : State) (next : SimPlace) → IsOnCourse later next → effort later next ≤ one
        → effort later next ≤ other → events_from seed one later next ≡ events_from seed other later next)
        → (step : SimStep) → simulated_next seed state place ≡ step
        → events_by (events_from seed one) state step ≡ events_by (events_from seed other) state step
    by_step rest (Take event next) comes =
        let less = falls_by_event seed state place next event course comes in
        ap (λ (events : List Event). event ∷ events)
        (rest (state_after state event) next (stays_by_event seed state place next event course comes)
        (omega (arith, less, first)) (omega (arith, less, second)))
    by_step rest (Move next) comes =
        let less = falls_by_move seed state place next course comes in
        rest state next (stays_by_move seed state place next course comes) (omega (arith, less, first))
        (omega (arith, less, second))
    by_step rest End comes = refl

-- More steps make no difference.
pub enough_steps : (seed : List ℕ) (steps : ℕ) (state : State) (place : SimPlace) → IsOnCourse state place
    → effort state place ≤ steps → events_from seed steps state place ≡ events_left seed state place
unfolding events_left
enough_steps seed steps state place course enough =
    both_enough seed steps (effort state place) state place course enough (omega arith)

-- What is left is what the next step and those after it make.
left_by_step : (seed : List ℕ) (state : State) (place : SimPlace) (step : SimStep) → IsOnCourse state place
    → simulated_next seed state place ≡ step
    → events_left seed state place ≡ events_by (events_from seed (effort state place)) state step
unfolding events_left
left_by_step seed state place step course comes =
    both_enough seed (effort state place) (suc (effort state place)) state place course (omega arith) (omega arith)
    ∙ ap (events_by (events_from seed (effort state place)) state) comes

-- What is left begins with the event that comes next.
pub left_by_event : (seed : List ℕ) (state : State) (place next : SimPlace) (event : Event) → IsOnCourse state place
    → simulated_next seed state place ≡ Take event next
    → events_left seed state place ≡ event ∷ events_left seed (state_after state event) next
left_by_event seed state place next event course comes =
    let less = falls_by_event seed state place next event course comes in
    left_by_step seed state place (Take event next) course comes
    ∙ ap (λ (events : List Event). event ∷ events)
    (enough_steps seed (effort state place) (state_after state event) next
    (stays_by_event seed state place next event course comes) (omega (arith, less)))

-- What is left is the same where only the place moves.
pub left_by_move : (seed : List ℕ) (state : State) (place next : SimPlace) → IsOnCourse state place
    → simulated_next seed state place ≡ Move next → events_left seed state place ≡ events_left seed state next
left_by_move seed state place next course comes =
    let less = falls_by_move seed state place next course comes in
    left_by_step seed state place (Move next) course comes
    ∙ enough_steps seed (effort state place) state next (stays_by_move seed state place next course comes)
    (omega (arith, less))

-- Nothing is left at the end.
pub left_at_end : (seed : List ℕ) (state : State) (place : SimPlace) → simulated_next seed state place ≡ End
    → events_left seed state place ≡ []
unfolding events_left
left_at_end seed state place comes = by_steps (effort state place)
  where
    by_steps : (steps : ℕ) → events_from seed steps state place ≡ []
    by_steps zero = refl
    by_steps (suc steps) = ap (events_by (events_from seed steps) state) comes

-- All events from a place on are accepted.
pub steps_accepted : (seed : List ℕ) (steps : ℕ) (state : State) (place : SimPlace) → IsOnCourse state place
    → All (λ answer. answer ≡ Ok) (answers state (events_from seed steps state place))
steps_accepted seed zero state place course = All-nil (λ (answer : Answer). answer ≡ Ok)
steps_accepted seed (suc steps) state place course =
    by_step (λ later next kept. steps_accepted seed steps later next kept) (simulated_next seed state place) refl
  where
    by_step : ((later : State) (next : SimPlace) → IsOnCourse later next
        → All (λ answer. answer ≡ Ok) (answers later (events_from seed steps later next)))
        → (step : SimStep) → simulated_next seed state place ≡ step
        → All (λ answer. answer ≡ Ok) (answers state (events_by (events_from seed steps) state step))
    by_step rest (Take event next) comes =
        All-cons (λ (answer : Answer). answer ≡ Ok) (answer_to state event)
        (answers (state_after state event) (events_from seed steps (state_after state event) next))
        (next_is_accepted seed state place next event course comes)
        (rest (state_after state event) next (stays_by_event seed state place next event course comes))
    by_step rest (Move next) comes = rest state next (stays_by_move seed state place next course comes)
    by_step rest End comes = All-nil (λ (answer : Answer). answer ≡ Ok)

-- All events that are left are accepted.
pub left_is_accepted : (seed : List ℕ) (state : State) (place : SimPlace) → IsOnCourse state place
    → All (λ answer. answer ≡ Ok) (answers state (events_left seed state place))
unfolding events_left
left_is_accepted seed state place course = steps_accepted seed (effort state place) state place course
