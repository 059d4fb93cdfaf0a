-- The lines of a plan that make it, and their end, are accepted, and the tournament begins with this plan.
use Rattle.std.proofs.Common.{◌≡◌, ◌∙◌, refl, sym, ap, subst, ℕ, ◌+◌, Bool, true, false, List, [], ◌∷◌, ◌++◌, map, length, arith}
use Rattle.std.specs.Prelude.{Option, Some, None, Ok as Made, Err, if◌then◌else◌}
use Rattle.std.specs.List.{All}
use Rattle.std.specs.Option.{option_map_or}
use Rattle.std.proofs.lemmas.List.Elements.{All-cons, All-nil}
use Rattle.level_plan.specs.declared.line.PlanItem.{PlanItem}
use Rattle.level_plan.specs.declared.line.PlanLine.{PlanLine}
use Rattle.level_plan.specs.Drafts.{Draft, draft_after, go_fault, is_wrong_line, item_of_line, plan_of}
use Rattle.level_plan.specs.Plans.{PlanTerms}
use Rattle.plan_files.specs.PlanFiles.{unless}
use Rattle.plan_files.specs.PlanLines.{plan_of_lines}
use Rattle.tournament_events.specs.declared.answer.Answer.{Answer}
use Rattle.tournament_events.specs.declared.answer.Answer.TheVariants.{Ok, PlanWrong}
use Rattle.tournament_events.specs.declared.event.Event.{Event}
use Rattle.tournament_events.specs.declared.event.Event.TheVariants as events
use Rattle.tournament_rules.specs.States.{State, accepted, answer_to, answers, first_play, is_accepted, run, state_after}

-- All events of a list are accepted, and the tournament of a plan begins behind them.
pub record BeginsBy (plan : PlanTerms) (state : State) (events : List Event) : Type 0 where
  pub all : All (λ answer. answer ≡ Ok) (answers state events)
  pub play : (run state events).play ≡ Some (first_play plan)
  pub counted : (run state events).accepted ≡ state.accepted + length events

-- It does so too where an event that is accepted comes before them.
by_first : (plan : PlanTerms) (state : State) (event : Event) (events : List Event) → answer_to state event ≡ Ok
    → BeginsBy plan (accepted state event) events
    → BeginsBy plan state (event ∷ events)
by_first plan state event events ok begins =
    let same : state_after state event ≡ accepted state event =
    ap (λ (answer : Answer). if is_accepted answer then accepted state event else state) ok in
    let rest = subst (λ (after : State). All (λ answer. answer ≡ Ok) (answers after events)) (sym same) begins.all in
    let counted = ap (λ (after : State). (run after events).accepted) same in
    let last = begins.counted in
    record {
      all = All-cons (λ answer. answer ≡ Ok) (answer_to state event) (answers (state_after state event) events) ok rest;
      play = ap (λ (after : State). (run after events).play) same ∙ begins.play;
      counted = omega (arith, counted, last);
    }

made_so : (fault : Option PlanItem) (made plan : PlanTerms) → unless fault made ≡ Made plan
    → (fault ≡ None) × (made ≡ plan)
made_so None made plan is = (refl, cc)
made_so (Some item) made plan is = absurd cc

-- Lines that come to a plan are accepted, and so is their end.
pub lines_taken : (plan : PlanTerms) (draft : Draft) (count : ℕ) (lines : List PlanLine)
    → plan_of_lines draft lines ≡ Made plan
    → BeginsBy plan (record { draft = draft; play = None; accepted = count })
    (map events.Plan lines ++ events.Go ∷ [])
lines_taken plan draft count [] makes =
    let parts = made_so (go_fault draft) (plan_of draft) plan makes in
    by_first plan (record { draft = draft; play = None; accepted = count }) events.Go []
    (ap (λ (fault : Option PlanItem). option_map_or PlanWrong fault Ok) parts.0)
    (record {
      all = All-nil (λ answer. answer ≡ Ok);
      play = ap (λ (plan : PlanTerms). Some (first_play plan)) parts.1;
      counted = omega arith;
    })
lines_taken plan draft count (line ∷ lines) makes =
    by_wrong (is_wrong_line draft line) refl makes
    (λ rest. lines_taken plan (draft_after draft line) (count + 1) lines rest)
  where
    by_wrong : (wrong : Bool) → is_wrong_line draft line ≡ wrong
        → (if wrong then Err (item_of_line line) else plan_of_lines (draft_after draft line) lines) ≡ Made plan
        → (plan_of_lines (draft_after draft line) lines ≡ Made plan
        → BeginsBy plan (record { draft = draft_after draft line; play = None; accepted = count + 1 })
        (map events.Plan lines ++ events.Go ∷ []))
        → BeginsBy plan (record { draft = draft; play = None; accepted = count })
        (events.Plan line ∷ map events.Plan lines ++ events.Go ∷ [])
    by_wrong true is makes later = absurd cc
    by_wrong false is makes later =
        by_first plan (record { draft = draft; play = None; accepted = count }) (events.Plan line)
        (map events.Plan lines ++ events.Go ∷ [])
        (ap (λ (wrong : Bool). if wrong then PlanWrong (item_of_line line) else Ok) is) (later makes)
