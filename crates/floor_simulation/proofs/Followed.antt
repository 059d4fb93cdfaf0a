-- A simulated tournament in its midst, step by step.
use Rattle.std.proofs.Common.{◌≡◌, ◌∙◌, refl, sym, ap, ℕ, ◌+◌, ◌^◌, ◌<◌, ◌≤◌, List, ◌∷◌, [], length, arith}
use Rattle.std.specs.Prelude.{count_by}
use Rattle.rulebook.proofs.Tests.{at_most_one, count_by-cons}
use Rattle.tournament_events.specs.declared.answer.Answer.TheVariants.{Ok}
use Rattle.tournament_events.specs.declared.event.Event.{Event}
use Rattle.tournament_rules.specs.States.{State, accepted, answer_to, is_accepted, run, state_after}
use Rattle.simulation_rules.specs.declared.place.SimPlace.{SimPlace}
use Rattle.simulation_rules.specs.declared.step.SimStep.TheVariants.{Take, Move}
use Rattle.simulation_rules.specs.Steps.{simulated_next}
use Rattle.simulation_rules.specs.Effort.{effort}
use Rattle.simulation_rules.specs.Left.{events_left}
use Rattle.simulation_rules.specs.Runs.{is_settle, most_steps}
use Rattle.simulation_rules.proofs.Accepted.{next_is_accepted}
use Rattle.simulation_rules.proofs.Falling.{falls_by_event, falls_by_move}
use Rattle.simulation_rules.proofs.OnCourse.{stays_by_event, stays_by_move}
use Rattle.simulation_rules.proofs.Following.{left_by_event, left_by_move}
use Rattle.floor_simulation.specs.Midst.{IsInMidst, ComeToSame}

-- A moment comes to the same as itself.
pub same-here : (seed : List ℕ) (state : State) (place : SimPlace) (hands : ℕ)
    → ComeToSame seed state place hands state place hands
same-here seed state place hands = record { runs = refl; settles = refl; lasts = refl }

-- What comes to the same as a moment that comes to the same as a first, comes to the same as the first.
pub same-on : (seed : List ℕ) (first : State) (at_first : SimPlace) (before : ℕ) (second : State)
    (at_second : SimPlace) (then_ : ℕ) (third : State) (at_third : SimPlace) (now : ℕ)
    → ComeToSame seed first at_first before second at_second then_
    → ComeToSame seed second at_second then_ third at_third now
    → ComeToSame seed first at_first before third at_third now
same-on seed first at_first before second at_second then_ third at_third now one other = record {
  runs = other.runs ∙ one.runs;
  settles = other.settles ∙ one.settles;
  lasts = other.lasts ∙ one.lasts;
}

room-left : (accepted left : ℕ) → 0 < left → accepted + left ≤ most_steps → accepted < 2 ^ 60
unfolding most_steps
room-left accepted left some few = omega arith

-- An accepted event is counted.
accepted-one : (state : State) (event : Event) → answer_to state event ≡ Ok
    → (state_after state event).accepted ≡ state.accepted + 1
accepted-one state event ok = let here = ap is_accepted ok in rw here refl

module _ (seed : List ℕ) (state : State) (place next : SimPlace) (hands : ℕ) (midst : IsInMidst state place hands) where
  module _ (event : Event) (comes : simulated_next seed state place ≡ Take event next) where
    -- There is room for the event that comes next.
    pub event-room : state.accepted < 2 ^ 60
    event-room =
        let less = falls_by_event seed state place next event midst.course comes in
        room-left state.accepted (effort state place) (omega (arith, less)) midst.few

    module _ (later : State) (there : SimPlace) (now : ℕ) (after : later ≡ state_after state event) (at : there ≡ next)
        (more : now ≡ hands + count_by is_settle (event ∷ [])) where
      one-more : (state_after state event).accepted ≡ state.accepted + 1
      one-more = accepted-one state event (next_is_accepted seed state place next event midst.course comes)

      -- After it the tournament is in its midst.
      pub event-midst : IsInMidst later there now
      event-midst =
          let one = one-more in
          let less = falls_by_event seed state place next event midst.course comes in
          let here = count_by-cons is_settle event [] in
          let most = at_most_one (is_settle event) in
          rw (after, at) (record {
            course = stays_by_event seed state place next event midst.course comes;
            few = let few = midst.few in omega (arith, few, one, less);
            counted = let counted = midst.counted in omega (arith, counted, one, more, here, most);
          })

      -- It comes to the same.
      pub event-same : ComeToSame seed state place hands later there now
      event-same =
          let left = left_by_event seed state place next event midst.course comes in
          let rest : List Event = events_left seed (state_after state event) next in
          let one = one-more in
          let here = count_by-cons is_settle event [] in
          let all = count_by-cons is_settle event rest in
          let settled = ap (count_by is_settle) left in
          let long = ap (λ (events : List Event). length events) left in
          rw (after, at) (record {
            runs = sym (ap (run state) left);
            settles = omega (arith, settled, all, here, more);
            lasts = omega (arith, long, one);
          })

      -- It leaves fewer steps.
      pub event-falls : effort later there < effort state place
      event-falls = rw (after, at) (falls_by_event seed state place next event midst.course comes)

  module _ (comes : simulated_next seed state place ≡ Move next) where
    -- After a move of the place it is so too.
    pub move-midst : IsInMidst state next hands
    move-midst =
        let less = falls_by_move seed state place next midst.course comes in
        record {
          course = stays_by_move seed state place next midst.course comes;
          few = let few = midst.few in omega (arith, few, less);
          counted = midst.counted;
        }

    pub move-same : ComeToSame seed state place hands state next hands
    move-same =
        let left = left_by_move seed state place next midst.course comes in
        record {
          runs = ap (run state) (sym left);
          settles = ap (λ (events : List Event). hands + count_by is_settle events) (sym left);
          lasts = ap (λ (events : List Event). state.accepted + length events) (sym left);
        }

    pub move-falls : effort state next < effort state place
    move-falls = falls_by_move seed state place next midst.course comes

-- What a course comes to where nothing is left.
pub record IsEnded (seed : List ℕ) (first : State) (start : SimPlace) (before : ℕ) (last : State) (settled : ℕ)
    : Type 0 where
  pub state : last ≡ run first (events_left seed first start)
  pub hands : settled ≡ before + count_by is_settle (events_left seed first start)
  pub events : last.accepted ≡ first.accepted + length (events_left seed first start)

-- It comes to that where a moment that comes to the same has nothing left.
pub ended : (seed : List ℕ) (first : State) (start : SimPlace) (before : ℕ) (last : State) (place : SimPlace)
    (settled : ℕ) → ComeToSame seed first start before last place settled → events_left seed last place ≡ []
    → IsEnded seed first start before last settled
ended seed first start before last place settled same none = record {
  state = sym (ap (run last) none) ∙ same.runs;
  hands = let settles = same.settles in let nothing = ap (count_by is_settle) none in
      omega (arith, settles, nothing);
  events = let lasts = same.lasts in let nothing = ap (λ (events : List Event). length events) none in
      omega (arith, lasts, nothing);
}

-- So it does where the step from a moment that comes to the same was the last.
pub ended-by_step : (seed by : List ℕ) (first : State) (start : SimPlace) (before : ℕ) (state : State)
    (place : SimPlace) (hands : ℕ) (last : State) (there : SimPlace) (settled : ℕ) → by ≡ seed
    → ComeToSame seed first start before state place hands → ComeToSame by state place hands last there settled
    → events_left by last there ≡ [] → IsEnded seed first start before last settled
ended-by_step seed by first start before state place hands last there settled same one other none =
    ended seed first start before last there settled
    (same-on seed first start before state place hands last there settled one (rw same at other)) (rw same at none)
