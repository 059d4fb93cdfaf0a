-- The events from a place on end with a stop, and there are fewer than steps.
use Rattle.std.proofs.Common.{◌≡◌, ◌∙◌, refl, ap, ℕ, zero, suc, ◌<◌, ◌≤◌, Bool, true, false, List, [], ◌∷◌, ◌++◌, length, ◌⊎◌, inl, inr, arith}
use Rattle.std.specs.Prelude.{if◌then◌else◌, Option, Some, None}
use Rattle.std.specs.Option.{option_map_or}
use Rattle.std.proofs.lemmas.Bool.{both_ways}
use Rattle.tournament_events.specs.declared.answer.Answer.TheVariants.{Ok}
use Rattle.tournament_events.specs.declared.event.Event.{Event}
use Rattle.tournament_events.specs.declared.event.Event.TheVariants as events
use Rattle.table_engine.specs.Hands.{HandTerms}
use Rattle.tournament_rules.specs.Effects.{settled}
use Rattle.tournament_rules.specs.States.{State, PlayState, answer_to, hand_at, is_accepted, play_effect, run, state_after}
use Rattle.simulation_rules.specs.declared.place.SimPlace.{SimPlace}
use Rattle.simulation_rules.specs.declared.step.SimStep.{SimStep}
use Rattle.simulation_rules.specs.declared.step.SimStep.TheVariants.{Take, Move, End}
use Rattle.simulation_rules.specs.Steps.{next_in_play, simulated_next}
use Rattle.simulation_rules.specs.Course.{IsOnCourse}
use Rattle.simulation_rules.specs.Effort.{effort, effort_in_play}
use Rattle.simulation_rules.specs.Runs.{events_by, events_from}
use Rattle.simulation_rules.proofs.Accepted.{next_is_accepted}
use Rattle.simulation_rules.proofs.Falling.{ends_stopped, falls_by_event, falls_by_move}
use Rattle.simulation_rules.proofs.OnCourse.{stays_by_event, stays_by_move}
use Rattle.simulation_rules.proofs.Parts.{two-left}

-- Whether the tournament is stopped, which it is not before there is a plan.
abbrev pub is_stopped : State → Bool
is_stopped state = option_map_or (λ play. play.book.stopped) state.play false

-- A tournament whose plan is whole and that is not stopped.
pub record IsGoing (state : State) : Type 0 where
  pub play : PlayState
  pub is : state.play ≡ Some play
  pub goes : play.book.stopped ≡ false

-- Such a tournament may take two steps or more.
two-going : (state : State) (place : SimPlace) → IsOnCourse state place → IsGoing state → 2 ≤ effort state place
two-going state place course going =
    let play = going.play in
    let way = course.under_way play going.is going.goes in
    let two = two-left play place way.to_last in
    let all : effort state place ≡ effort_in_play play place =
    ap (λ (found : Option PlayState). option_map_or
    (λ play. if play.book.stopped then 0 else effort_in_play play place) found 0) going.is
    ∙ ap (λ (stopped : Bool). if stopped then 0 else effort_in_play play place) going.goes in
    omega (arith, two, all)

-- Only a stop stops a tournament.
only_stop : (play : PlayState) (event : Event) → play.book.stopped ≡ false
    → (play_effect play event).book.stopped ≡ true → event ≡ events.Stop
only_stop play events.Stop goes stops = refl
only_stop play (events.Settle table) goes stops = by_hand (hand_at play table) stops
  where
    by_hand : (hand : Option HandTerms) → (option_map_or (settled play.book) hand play.book).stopped ≡ true
        → events.Settle table ≡ events.Stop
    by_hand None stops = absurd (both_ways play.book.stopped goes stops)
    by_hand (Some hand) stops = absurd (both_ways play.book.stopped goes stops)
only_stop play event goes stops = absurd (both_ways play.book.stopped goes stops)

-- After an accepted event it still goes, or the event was a stop.
after_going : (state : State) (event : Event) → IsGoing state → answer_to state event ≡ Ok
    → ((event ≡ events.Stop) × (is_stopped (state_after state event) ≡ true)) ⊎ IsGoing (state_after state event)
after_going state event going taken = by_stop (play_effect going.play event).book.stopped refl
  where
    next : (state_after state event).play ≡ Some (play_effect going.play event)
    next = let accepted = ap is_accepted taken in let at = going.is in rw (accepted, at) refl

    by_stop : (stops : Bool) → (play_effect going.play event).book.stopped ≡ stops
        → ((event ≡ events.Stop) × (is_stopped (state_after state event) ≡ true))
        ⊎ IsGoing (state_after state event)
    by_stop true is = inl (
      only_stop going.play event going.goes is,
      ap (λ (found : Option PlayState). option_map_or (λ play. play.book.stopped) found false) next ∙ is,
    )
    by_stop false is = inr (record { play = play_effect going.play event; is = next; goes = is })

next-stopped : (seed : List ℕ) (number : ℕ) (play : PlayState) (place : SimPlace) → play.book.stopped ≡ true
    → next_in_play seed number play place ≡ End
unfolding next_in_play
next-stopped seed number play place is = rw is refl

-- Nothing comes after a stop.
none_after_stop : (seed : List ℕ) (steps : ℕ) (state : State) (place : SimPlace) → is_stopped state ≡ true
    → events_from seed steps state place ≡ []
none_after_stop seed zero state place stopped = refl
none_after_stop seed (suc steps) state place stopped =
    ap (events_by (events_from seed steps) state) (by_play state.play stopped)
  where
    by_play : (play : Option PlayState) → option_map_or (λ play. play.book.stopped) play false ≡ true
        → option_map_or (λ play. next_in_play seed state.accepted play place) play End ≡ End
    by_play None stopped = refl
    by_play (Some play) stopped = next-stopped seed state.accepted play place stopped

-- Events from a place on that end with a stop, after which the tournament is stopped, and are fewer than the steps that
-- it may take.
pub record EndBySteps (state : State) (place : SimPlace) (all : List Event) : Type 0 where
  pub front : List Event
  pub last : all ≡ front ++ events.Stop ∷ []
  pub stopped : is_stopped (run state all) ≡ true
  pub few : length all < effort state place

-- The events of enough steps are so.
pub steps-end : (seed : List ℕ) (steps : ℕ) (state : State) (place : SimPlace) → IsOnCourse state place
    → IsGoing state → effort state place ≤ steps → EndBySteps state place (events_from seed steps state place)
steps-end seed zero state place course going enough =
    let two = two-going state place course going in absurd (omega (arith, two, enough))
steps-end seed (suc steps) state place course going enough =
    by_step (λ later next kept goes fewer. steps-end seed steps later next kept goes fewer)
    (simulated_next seed state place) refl
  where
    by_step : ((later : State) (next : SimPlace) → IsOnCourse later next → IsGoing later → effort later next ≤ steps
        → EndBySteps later next (events_from seed steps later next))
        → (step : SimStep) → simulated_next seed state place ≡ step
        → EndBySteps state place (events_by (events_from seed steps) state step)
    by_step rest (Take event next) comes =
        let later : State = state_after state event in
        let taken = next_is_accepted seed state place next event course comes in
        let less = falls_by_event seed state place next event course comes in
        elim (after_going state event going taken) [
          | inl stops ↦
              let none = none_after_stop seed steps later next stops.1 in
              let two = two-going state place course going in
              let short = ap length none in
              record {
                front = [];
                last = λ i. stops.0 i ∷ none i;
                stopped = ap (λ (more : List Event). is_stopped (run later more)) none ∙ stops.1;
                few = omega (arith, two, short);
              }
          | inr goes ↦
              let more = rest later next (stays_by_event seed state place next event course comes) goes
              (omega (arith, less, enough)) in
              let few = more.few in
              record {
                front = event ∷ more.front;
                last = ap (λ (all : List Event). event ∷ all) more.last;
                stopped = more.stopped;
                few = omega (arith, few, less);
              }
        ]
    by_step rest (Move next) comes =
        let less = falls_by_move seed state place next course comes in
        let more = rest state next (stays_by_move seed state place next course comes) going
        (omega (arith, less, enough)) in
        let few = more.few in
        record { front = more.front; last = more.last; stopped = more.stopped; few = omega (arith, few, less) }
    by_step rest End comes =
        absurd (both_ways going.play.book.stopped going.goes
        (ends_stopped seed state place course comes going.play going.is))
