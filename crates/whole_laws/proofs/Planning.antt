-- The events of a plan: before the plan is whole no other is accepted.
use Rattle.std.proofs.Common.{◌≡◌, ◌∙◌, refl, sym, ap, ℕ, Bool, true, false, List, [], ◌∷◌, ◌++◌}
use Rattle.std.specs.Prelude.{if◌then◌else◌, Option, Some, None}
use Rattle.std.specs.Option.{option_map_or}
use Rattle.std.proofs.lemmas.Bool.{and_parts}
use Rattle.level_plan.specs.declared.line.PlanLine.{PlanLine}
use Rattle.level_plan.specs.Drafts.{Draft, plan_of}
use Rattle.table_engine.specs.declared.record.ActOf.{ActOf}
use Rattle.tournament_events.specs.declared.event.Event.{Event}
use Rattle.tournament_events.specs.declared.event.Event.TheVariants as events
use Rattle.tournament_rules.specs.States.{State, PlayState, accepted, answer_to, answered, first_play, is_accepted, planning_answer, planning_effect, play_effect, refusal_of, state_after}
use Rattle.dock_rules.specs.Journals.{act_event, acts_before, are_accepted}

-- What the plan's draft refuses is refused before the plan is whole.
refused-planning : (state : State) (event : Event) → state.play ≡ None
    → is_accepted (planning_answer state.draft event) ≡ false → is_accepted (answer_to state event) ≡ true → ⊥
refused-planning state event none wrong taken =
    let same : is_accepted (answer_to state event) ≡ is_accepted (planning_answer state.draft event) =
    ap (λ (found : Option PlayState). is_accepted (option_map_or (λ play. answered (refusal_of play event)) found
    (planning_answer state.draft event))) none in
    let never : true ≡ false = sym taken ∙ (same ∙ wrong) in
    absurd cc

act-unplanned : (draft : Draft) (table : ℕ) (act : ActOf)
    → is_accepted (planning_answer draft (act_event table act)) ≡ false
act-unplanned draft table act = by_time act.by_time
  where
    by_time : (timed : Bool)
        → is_accepted (planning_answer draft (if timed then events.Time table else events.Act table act.name act.act))
        ≡ false
    by_time true = refl
    by_time false = refl

-- What is so of each line of a plan that is accepted, and of its end, is so of each event that is accepted, with the
-- acts before it, before the plan is whole.
pub by_plan : (state : State) (P : Event → List ActOf → Type 0) → state.play ≡ None
    → ((line : PlanLine) (acts : List ActOf) → P (events.Plan line) acts)
    → ((acts : List ActOf) → is_accepted (answer_to state events.Go) ≡ true → P events.Go acts)
    → (event : Event) (acts : List ActOf) → are_accepted state (acts_before event acts ++ event ∷ []) ≡ true
    → P event acts
by_plan state P none line end (events.Plan given) acts taken = line given acts
by_plan state P none line end events.Go acts taken = end acts (and_parts _ _ taken).0
by_plan state P none line end (events.Settle table) [] taken =
    absurd (refused-planning state (events.Settle table) none refl (and_parts _ _ taken).0)
by_plan state P none line end (events.Settle table) (act ∷ acts) taken =
    absurd (refused-planning state (act_event table act) none (act-unplanned state.draft table act)
    (and_parts _ _ taken).0)
by_plan state P none line end event acts taken =
    absurd (refused-planning state event none refl (and_parts _ _ taken).0)

-- No line makes the plan whole.
pub line-leaves : (state : State) (line : PlanLine) → state.play ≡ None
    → (state_after state (events.Plan line)).play ≡ None
line-leaves state line none = by_taken (is_accepted (answer_to state (events.Plan line)))
  where
    by_taken : (taken : Bool)
        → (if taken then accepted state (events.Plan line) else state).play ≡ None
    by_taken true = ap (λ (found : Option PlayState).
        (option_map_or (λ (play : PlayState). record state { play = Some (play_effect play (events.Plan line)) }) found
        (planning_effect state (events.Plan line))).play) none ∙ none
    by_taken false = none

-- Its end does.
pub end-makes : (state : State) → state.play ≡ None → is_accepted (answer_to state events.Go) ≡ true
    → (state_after state events.Go).play ≡ Some (first_play (plan_of state.draft))
end-makes state none taken =
    ap (λ (yes : Bool). (if yes then accepted state events.Go else state).play) taken
    ∙ ap (λ (found : Option PlayState).
    (option_map_or (λ (play : PlayState). record state { play = Some (play_effect play events.Go) }) found
    (planning_effect state events.Go)).play) none
