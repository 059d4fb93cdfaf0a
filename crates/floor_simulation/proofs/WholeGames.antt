-- The whole of a simulated tournament: its plan is taken, and then what is to come from the first place on.
use Rattle.std.proofs.Common.{◌≡◌, ◌∙◌, refl, sym, ap, ℕ, List, [], ◌∷◌, ◌++◌, cond, map, length, length-append, true, arith}
use Rattle.std.specs.Prelude.{count_by}
use Rattle.std.proofs.lemmas.List.Sums.{sum_by-append}
use Rattle.rulebook.proofs.Tests.{count_by-cons}
use Rattle.level_plan.specs.declared.line.PlanLine.{PlanLine}
use Rattle.level_plan.specs.Drafts.{empty_draft}
use Rattle.level_plan.specs.Plans.{PlanTerms, is_right}
use Rattle.plan_files.specs.PlanLines.{lines_of_plan}
use Rattle.plan_files.proofs.MadeAgain.{made_again}
use Rattle.tournament_events.specs.declared.event.Event.{Event}
use Rattle.tournament_events.specs.declared.event.Event.TheVariants as events
use Rattle.tournament_rules.specs.States.{State, first_state, run, state_after}
use Rattle.simulation_rules.specs.Places.{first_place}
use Rattle.simulation_rules.specs.Left.{events_left}
use Rattle.simulation_rules.specs.Runs.{is_settle, most_steps, plan_events, simulated_run}
use Rattle.simulation_rules.proofs.Beginning.{begins_on_course, begins_with_few}
use Rattle.simulation_rules.proofs.Following.{enough_steps}
use Rattle.simulation_rules.proofs.PlanTaken.{lines_taken}
use Rattle.floor_simulation.specs.Midst.{IsInMidst}
use Rattle.floor_simulation.proofs.Followed.{IsEnded}

run-joined : (state : State) (front back : List Event) → run state (front ++ back) ≡ run (run state front) back
run-joined state [] back = refl
run-joined state (event ∷ front) back = run-joined (state_after state event) front back

-- the lines of a plan and their end settle no hand
none-settles : (lines : List PlanLine) → count_by is_settle (map events.Plan lines ++ events.Go ∷ []) ≡ 0
none-settles [] = refl
none-settles (line ∷ lines) =
    let first = count_by-cons is_settle (events.Plan line) (map events.Plan lines ++ events.Go ∷ []) in
    let rest = none-settles lines in
    omega (arith, first, rest)

module _ (seed : List ℕ) (plan : PlanTerms) (right : is_right plan ≡ true) where
  abbrev begun : State
  begun = run first_state (plan_events plan)

  -- It begins in its midst, before any hand.
  pub begun-midst : IsInMidst begun first_place 0
  begun-midst = record {
    course = begins_on_course plan right;
    few = begins_with_few plan right;
    counted = omega arith;
  }

  whole : simulated_run seed plan ≡ plan_events plan ++ events_left seed begun first_place
  unfolding simulated_run
  whole =
      let few = begins_with_few plan right in
      ap (λ (events : List Event). plan_events plan ++ events)
      (enough_steps seed most_steps begun first_place (begins_on_course plan right) (omega (arith, few)))

  begun-counted : begun.accepted ≡ length (plan_events plan)
  begun-counted =
      let counted = (lines_taken plan empty_draft 0 (lines_of_plan plan) (made_again plan right)).counted in
      omega (arith, counted)

  -- What a course from there comes to is what the whole run does.
  pub record IsPlayed (last : State) (settled : ℕ) : Type 0 where
    pub state : last ≡ run first_state (simulated_run seed plan)
    pub hands : settled ≡ count_by is_settle (simulated_run seed plan)
    pub events : last.accepted ≡ length (simulated_run seed plan)

  pub ended-whole : (last : State) (settled : ℕ) → IsEnded seed begun first_place 0 last settled
      → IsPlayed last settled
  ended-whole last settled is = record {
    state = is.state ∙ sym (ap (run first_state) whole
        ∙ run-joined first_state (plan_events plan) (events_left seed begun first_place));
    hands =
        let all = ap (count_by is_settle) whole in
        let parts = sum_by-append (λ (event : Event). cond (is_settle event) 1 0) (plan_events plan)
        (events_left seed begun first_place) in
        let none = none-settles (lines_of_plan plan) in
        let his = is.hands in
        omega (arith, all, parts, none, his);
    events =
        let all = ap (λ (events : List Event). length events) whole in
        let parts = length-append (plan_events plan) (events_left seed begun first_place) in
        let first = begun-counted in
        let its = is.events in
        omega (arith, all, parts, first, its);
  }
