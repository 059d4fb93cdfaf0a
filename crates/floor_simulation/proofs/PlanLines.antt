-- The lines of a plan are taken one after another.
use Rattle.std.proofs.Common.{◌≡◌, ◌∙◌, ap, ◌+◌, ◌^◌, ◌<◌, ◌≤◌, Bool, true, false, List, [], ◌∷◌, ◌++◌, map, length, arith}
use Rattle.std.specs.Prelude.{if◌then◌else◌}
use Rattle.level_plan.specs.declared.line.PlanLine.{PlanLine}
use Rattle.level_plan.specs.Plans.{PlanTerms, is_right}
use Rattle.plan_files.specs.PlanLines.{lines_of_plan}
use Rattle.plan_files.proofs.MadeAgain.{few_lines}
use Rattle.tournament_events.specs.declared.event.Event.{Event}
use Rattle.tournament_events.specs.declared.event.Event.TheVariants as events
use Rattle.tournament_rules.specs.States.{State, accepted, answer_to, first_state, is_accepted, run, state_after}
use Rattle.tournament_rules.proofs.Entries.{right_has}
use Rattle.simulation_rules.specs.Runs.{plan_events}

-- Of a plan so many lines are left, and with its end they make the tournament; few events were accepted.
pub record IsPlanning (plan : PlanTerms) (state : State) (left : List PlanLine) : Type 0 where
  pub runs : run state (map events.Plan left ++ events.Go ∷ []) ≡ run first_state (plan_events plan)
  pub few : state.accepted + length left ≤ 100

-- At first all lines of a right plan are left.
pub planning-starts : (plan : PlanTerms) (lines : List PlanLine) → is_right plan ≡ true
    → lines ≡ lines_of_plan plan → IsPlanning plan first_state lines
planning-starts plan lines right are = record {
  runs = ap (λ (lines : List PlanLine). run first_state (map events.Plan lines ++ events.Go ∷ [])) are;
  few =
      let levels = (right_has plan right).level_count in
      let all = few_lines plan in
      rw are (omega (arith, levels, all));
}

counted-most : (state : State) (event : Event) → (state_after state event).accepted ≤ state.accepted + 1
counted-most state event = by_answer (is_accepted (answer_to state event))
  where
    by_answer : (b : Bool) → (if b then accepted state event else state).accepted ≤ state.accepted + 1
    by_answer true = omega arith
    by_answer false = omega arith

-- The next line is taken.
pub planning-next : (plan : PlanTerms) (state later : State) (line : PlanLine) (left rest : List PlanLine)
    → left ≡ line ∷ rest → later ≡ state_after state (events.Plan line) → IsPlanning plan state left
    → IsPlanning plan later rest
planning-next plan state later line left rest are taken is =
    let runs = rw are at is.runs in
    let long = ap (λ (lines : List PlanLine). length lines) are in
    let most = counted-most state (events.Plan line) in
    let few = is.few in
    rw taken (record { runs = runs; few = omega (arith, few, long, most) })

-- There is room for an event.
pub planning-room : (plan : PlanTerms) (state : State) (left : List PlanLine) → IsPlanning plan state left
    → state.accepted < 2 ^ 60
planning-room plan state left is = let few = is.few in omega (arith, few)

-- Where none is left, the end of the plan begins the tournament.
pub planning-ends : (plan : PlanTerms) (state last : State) (left : List PlanLine) → left ≡ []
    → last ≡ state_after state events.Go → IsPlanning plan state left → last ≡ run first_state (plan_events plan)
planning-ends plan state last left none taken is = taken ∙ (rw none at is.runs)
