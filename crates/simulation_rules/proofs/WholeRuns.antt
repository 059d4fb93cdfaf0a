-- A whole simulated tournament: its plan is taken, all its events are accepted, and it ends with a stop.
use Rattle.std.proofs.Common.{◌≡◌, ◌∙◌, refl, sym, ap, subst, ℕ, ◌+◌, ◌^◌, ◌<◌, Bool, true, List, [], ◌∷◌, ◌++◌, length, append_assoc, arith}
use Rattle.std.specs.Prelude.{map, if◌then◌else◌, Option, Some, None}
use Rattle.std.specs.List.{All}
use Rattle.std.proofs.lemmas.List.{length-append}
use Rattle.std.proofs.lemmas.List.Elements.{All-append, All-head, All-tail}
use Rattle.level_plan.specs.Drafts.{Draft, plan_of}
use Rattle.level_plan.specs.Plans.{PlanTerms, is_right}
use Rattle.plan_files.specs.PlanLines.{lines_of_plan}
use Rattle.tournament_events.specs.declared.answer.Answer.{Answer}
use Rattle.tournament_events.specs.declared.answer.Answer.TheVariants.{Ok}
use Rattle.tournament_events.specs.declared.event.Event.{Event}
use Rattle.tournament_events.specs.declared.event.Event.TheVariants as events
use Rattle.tournament_rules.specs.States.{State, PlayState, accepted, answer_to, answers, first_play, first_state, is_accepted, refusal_of, run, state_after}
use Rattle.tournament_rules.proofs.Passed.{go_late, passed-parts}
use Rattle.tournament_rules.proofs.Steps.{accepted_none}
use Rattle.simulation_rules.specs.Places.{first_place}
use Rattle.simulation_rules.specs.Runs.{events_from, most_steps, plan_events, simulated_run}
use Rattle.simulation_rules.proofs.Beginning.{begins_on_course, begins_with_few, plan_is_accepted}
use Rattle.simulation_rules.proofs.Ending.{EndBySteps, IsGoing, is_stopped, steps-end}
use Rattle.simulation_rules.proofs.Following.{steps_accepted}

-- An answer is ok.
abbrev IsOk : Answer → Type 0
IsOk answer = answer ≡ Ok

run-append : (state : State) (front back : List Event) → run state (front ++ back) ≡ run (run state front) back
run-append state [] back = refl
run-append state (event ∷ front) back = run-append (state_after state event) front back

answers-append : (state : State) (front back : List Event)
    → answers state (front ++ back) ≡ answers state front ++ answers (run state front) back
answers-append state [] back = refl
answers-append state (event ∷ front) back =
    ap (λ (others : List Answer). answer_to state event ∷ others)
    (answers-append (state_after state event) front back)

-- Where all events of a list are accepted, so is the last.
last_accepted : (state : State) (front : List Event) (event : Event)
    → All IsOk (answers state (front ++ event ∷ [])) → answer_to (run state front) event ≡ Ok
last_accepted state [] event all = All-head IsOk (answer_to state event) [] all
last_accepted state (first ∷ front) event all =
    last_accepted (state_after state first) front event
    (All-tail IsOk (answer_to state first) (answers (state_after state first) (front ++ event ∷ [])) all)

-- And as many are accepted as it has events.
all_counted : (state : State) (more : List Event) → All IsOk (answers state more)
    → (run state more).accepted ≡ state.accepted + length more
all_counted state [] all = omega arith
all_counted state (event ∷ more) all =
    let here = ap is_accepted (All-head IsOk (answer_to state event) (answers (state_after state event) more) all) in
    let one : (state_after state event).accepted ≡ state.accepted + 1 = rw here refl in
    let rest = all_counted (state_after state event) more
    (All-tail IsOk (answer_to state event) (answers (state_after state event) more) all) in
    omega (arith, one, rest)

-- An end of a plan that is accepted begins a tournament that goes.
go_begins : (draft : Draft) (play : Option PlayState) (count : ℕ)
    → answer_to (record { draft = draft; play = play; accepted = count }) events.Go ≡ Ok
    → IsGoing (state_after (record { draft = draft; play = play; accepted = count }) events.Go)
go_begins draft None count taken =
    let state : State = record { draft = draft; play = None; accepted = count } in
    let is = ap is_accepted taken in
    subst (λ (b : Bool). IsGoing (if b then accepted state events.Go else state)) (sym is)
    (record { play = first_play (plan_of draft); is = refl; goes = refl })
go_begins draft (Some play) count taken =
    absurd (go_late play.book (passed-parts play events.Go
    (accepted_none (refusal_of play events.Go) (ap is_accepted taken))).0)

module _ (seed : List ℕ) (plan : PlanTerms) (right : is_right plan ≡ true) where
  abbrev begun : State
  begun = run first_state (plan_events plan)

  goes : IsGoing begun
  goes =
      let front = map events.Plan (lines_of_plan plan) in
      let before = run first_state front in
      let taken = last_accepted first_state front events.Go (plan_is_accepted plan right) in
      subst IsGoing (sym (run-append first_state front (events.Go ∷ [])))
      (go_begins before.draft before.play before.accepted taken)

  ends : EndBySteps begun first_place (events_from seed most_steps begun first_place)
  ends =
      let few = begins_with_few plan right in
      steps-end seed most_steps begun first_place (begins_on_course plan right) goes (omega (arith, few))

  -- Each event is accepted.
  pub run-accepted : All IsOk (answers first_state (simulated_run seed plan))
  unfolding simulated_run
  run-accepted =
      subst (All IsOk)
      (sym (answers-append first_state (plan_events plan) (events_from seed most_steps begun first_place)))
      (All-append IsOk (answers first_state (plan_events plan))
      (answers begun (events_from seed most_steps begun first_place)) (plan_is_accepted plan right)
      (steps_accepted seed most_steps begun first_place (begins_on_course plan right)))

  -- The tournament is stopped then.
  pub run-stopped : is_stopped (run first_state (simulated_run seed plan)) ≡ true
  unfolding simulated_run
  run-stopped =
      ap is_stopped (run-append first_state (plan_events plan) (events_from seed most_steps begun first_place))
      ∙ ends.stopped

  -- The last event is a stop.
  pub run-last : (front : List Event) × (simulated_run seed plan ≡ front ++ events.Stop ∷ [])
  unfolding simulated_run
  run-last =
      let last = ends.last in (
        plan_events plan ++ ends.front,
        ap (λ (back : List Event). plan_events plan ++ back) last
            ∙ sym (append_assoc (plan_events plan) ends.front (events.Stop ∷ [])),
      )

  run-few : length (simulated_run seed plan) < most_steps
  unfolding simulated_run
  run-few =
      let all = length-append (plan_events plan) (events_from seed most_steps begun first_place) in
      let first = all_counted first_state (plan_events plan) (plan_is_accepted plan right) in
      let few = ends.few in
      let most = begins_with_few plan right in
      omega (arith, all, first, few, most)

most_is : most_steps ≡ 2 ^ 60
unfolding most_steps
most_is = refl

-- There are fewer than 2 ^ 60 events.
pub run-short : (seed : List ℕ) (plan : PlanTerms) → is_right plan ≡ true
    → length (simulated_run seed plan) < 2 ^ 60
run-short seed plan right = let few = run-few seed plan right in let most = most_is in omega (arith, few, most)
