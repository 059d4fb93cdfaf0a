-- Each step of a simulated tournament leaves fewer.
use Rattle.std.proofs.Common.{◌≡◌, refl, sym, ap, subst, ℕ, ◌<◌, Bool, true, false, List}
use Rattle.std.specs.Prelude.{nat_lt, length, if◌then◌else◌, Option, Some, None}
use Rattle.std.specs.Option.{ForSome}
use Rattle.std.proofs.lemmas.Bool.{cond_both}
use Rattle.level_plan.specs.Drafts.{Draft}
use Rattle.tournament_events.specs.declared.answer.Answer.TheVariants.{Ok}
use Rattle.tournament_events.specs.declared.event.Event.{Event}
use Rattle.tournament_rules.specs.States.{State, PlayState, accepted, answer_to, is_accepted, refusal_of, state_after}
use Rattle.tournament_rules.proofs.Plays.{some_so}
use Rattle.tournament_rules.proofs.Steps.{accepted_none}
use Rattle.simulation_rules.specs.declared.place.SimPlace.{SimPlace}
use Rattle.simulation_rules.specs.declared.step.SimStep.{SimStep}
use Rattle.simulation_rules.specs.declared.step.SimStep.TheVariants.{Take, Move, End}
use Rattle.simulation_rules.specs.Steps.{in_rounds, next_in_play, simulated_next}
use Rattle.simulation_rules.specs.Course.{IsOnCourse}
use Rattle.simulation_rules.specs.Effort.{effort, effort_in_play}
use Rattle.simulation_rules.specs.Entrants.{entrants, next_entry}
use Rattle.simulation_rules.proofs.Accepted.{next_is_accepted}
use Rattle.simulation_rules.proofs.StepFalls.{LeavesFewer, fewer-not_stopped}

-- what is so of a step that leaves fewer steps, where its event is accepted, or is the end of a tournament that is
-- stopped
abbrev Falls : State → SimPlace → SimStep → Type 0
Falls state place (Take event next) =
    answer_to state event ≡ Ok → effort (state_after state event) next < effort state place
Falls state place (Move next) = effort state next < effort state place
Falls state place End = ForSome state.play (λ play. play.book.stopped ≡ true)

module _ (draft : Draft) (play : PlayState) (count : ℕ) (place : SimPlace) (goes : play.book.stopped ≡ false) where
  abbrev state : State
  state = record { draft = draft; play = Some play; accepted = count }

  all_left : effort state place ≡ effort_in_play play place
  all_left = ap (λ (stopped : Bool). if stopped then 0 else effort_in_play play place) goes

  to_state : (step : SimStep) → LeavesFewer play place step → Falls state place step
  to_state (Take event next) fewer = λ taken.
      let is = ap is_accepted taken in
      let less = fewer (accepted_none (refusal_of play event) is) in
      let now : effort (state_after state event) next < effort_in_play play place =
      subst (λ (b : Bool). effort (if b then accepted state event else state) next < effort_in_play play place)
      (sym is) less in
      subst (λ (left : ℕ). effort (state_after state event) next < left) (sym all_left) now
  to_state (Move next) fewer = subst (λ (left : ℕ). effort state next < left) (sym all_left) fewer
  to_state End fewer = absurd fewer

falls : (seed : List ℕ) (draft : Draft) (play : Option PlayState) (count : ℕ) (place : SimPlace)
    → IsOnCourse (record { draft = draft; play = play; accepted = count }) place
    → Falls (record { draft = draft; play = play; accepted = count }) place
    (simulated_next seed (record { draft = draft; play = play; accepted = count }) place)
unfolding next_in_play
falls seed draft None count place course = λ play is. absurd cc
falls seed draft (Some play) count place course =
    let rest : SimStep = if nat_lt (length play.book.entries) (entrants play.book.plan)
    then Take (next_entry play.book) place else in_rounds seed count play place in
    let state : State = record { draft = draft; play = Some play; accepted = count } in
    cond_both {A = SimStep} play.book.stopped End rest (Falls state place)
    (λ stopped. some_so (λ play. play.book.stopped ≡ true) play stopped)
    (λ goes. to_state draft play count place goes rest
    (fewer-not_stopped seed count play place (course.valid.play play refl) (course.under_way play refl goes)))

-- An event that comes next leaves fewer steps.
pub falls_by_event : (seed : List ℕ) (state : State) (place next : SimPlace) (event : Event) → IsOnCourse state place
    → simulated_next seed state place ≡ Take event next → effort (state_after state event) next < effort state place
falls_by_event seed state place next event course comes =
    let less = subst (Falls state place) comes (falls seed state.draft state.play state.accepted place course) in
    less (next_is_accepted seed state place next event course comes)

-- A move of the place leaves fewer steps.
pub falls_by_move : (seed : List ℕ) (state : State) (place next : SimPlace) → IsOnCourse state place
    → simulated_next seed state place ≡ Move next → effort state next < effort state place
falls_by_move seed state place next course comes =
    subst (Falls state place) comes (falls seed state.draft state.play state.accepted place course)

-- A tournament that is at its end is stopped.
pub ends_stopped : (seed : List ℕ) (state : State) (place : SimPlace) → IsOnCourse state place
    → simulated_next seed state place ≡ End → ForSome state.play (λ play. play.book.stopped ≡ true)
ends_stopped seed state place course comes =
    subst (Falls state place) comes (falls seed state.draft state.play state.accepted place course)
