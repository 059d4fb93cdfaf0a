-- A state is valid after any list of events.
use Rattle.std.proofs.Common.{◌≡◌, refl, ℕ, ◌+◌, ◌≤◌, Bool, true, false, List, [], ◌∷◌, arith}
use Rattle.std.specs.Prelude.{Option, Some, None, if◌then◌else◌}
use Rattle.std.specs.Option.{option_map_or, ForSome}
use Rattle.floor_text.specs.declared.refusal.Refusal.{Refusal}
use Rattle.level_plan.specs.declared.line.PlanItem.{PlanItem}
use Rattle.level_plan.specs.Drafts.{Draft, item_of_line, is_wrong_line, go_fault, plan_of, IsLawful}
use Rattle.tournament_events.specs.declared.answer.Answer.TheVariants.{Ok, PlanWrong}
use Rattle.tournament_events.specs.declared.event.Event.{Event}
use Rattle.tournament_events.specs.declared.event.Event.TheVariants as events
use Rattle.table_engine.specs.Hands.{HandTerms}
use Rattle.tournament_rules.specs.Effects.{settled}
use Rattle.tournament_rules.specs.States.{State, PlayState, first_state, first_play, hand_at, refusal_of, answered, answer_to, play_effect, accepted, is_accepted, state_after, run}
use Rattle.tournament_rules.specs.Valid.{IsValidPlay, IsValidState}
use Rattle.tournament_rules.proofs.Drafts.{lawful_empty, lawful_line, right_plan}
use Rattle.tournament_rules.proofs.Plays.{some_so, play_keeps, valid_first_play}

-- An answer that tells a refusal, or that there is none, accepts where there is none.
pub accepted_none : (refusal : Option Refusal) → is_accepted (answered refusal) ≡ true → refusal ≡ None
accepted_none None accepted = refl
accepted_none (Some refusal) accepted = cc

-- The book accepts at most one event more.
accepted_more : (play : PlayState) (event : Event) → (play_effect play event).book.accepted ≤ play.book.accepted + 1
accepted_more play (events.Settle table) = by_hand (hand_at play table)
  where
    by_hand : (hand : Option HandTerms)
        → (option_map_or (settled play.book) hand play.book).accepted ≤ play.book.accepted + 1
    by_hand None = omega arith
    by_hand (Some hand) = omega arith
accepted_more play _ = omega arith

-- An accepted line of a plan is not wrong.
line_right : (wrong : Bool) (item : PlanItem) → is_accepted (if wrong then PlanWrong item else Ok) ≡ true
    → wrong ≡ false
line_right true item accepted = cc
line_right false item accepted = refl

-- An accepted end of a plan finds nothing wrong.
pub go_right : (fault : Option PlanItem) → is_accepted (option_map_or PlanWrong fault Ok) ≡ true → fault ≡ None
go_right None accepted = refl
go_right (Some item) accepted = cc

-- An accepted event leaves a state valid.
valid_accepted : (draft : Draft) (play : Option PlayState) (count : ℕ) (event : Event) → IsLawful draft
    → ForSome play IsValidPlay → ForSome play (λ play. play.book.accepted ≤ count)
    → is_accepted (answer_to (record { draft = draft; play = play; accepted = count }) event) ≡ true
    → IsValidState (accepted (record { draft = draft; play = play; accepted = count }) event)
valid_accepted draft None count (events.Plan line) lawful valid counted accepted = record {
  draft = lawful_line draft line lawful
      (line_right (is_wrong_line draft line) (item_of_line line) accepted);
  play = λ play is. absurd cc;
  counted = λ play is. absurd cc;
}
valid_accepted draft None count events.Go lawful valid counted accepted = record {
  draft = lawful;
  play = some_so IsValidPlay (first_play (plan_of draft))
      (valid_first_play (plan_of draft) (right_plan draft lawful (go_right (go_fault draft) accepted)));
  counted = some_so (λ play. play.book.accepted ≤ count + 1) (first_play (plan_of draft)) (omega arith);
}
valid_accepted draft None count _ lawful valid counted accepted = absurd cc
valid_accepted draft (Some play) count event lawful valid counted accepted = record {
  draft = lawful;
  play = some_so IsValidPlay (play_effect play event)
      (play_keeps play event (valid play refl) (accepted_none (refusal_of play event) accepted));
  counted = some_so (λ play. play.book.accepted ≤ count + 1) (play_effect play event)
      (let before = counted play refl in let more = accepted_more play event in omega (arith, before, more));
}

-- Any event leaves a state valid.
pub valid_state_after : (state : State) (event : Event) → IsValidState state → IsValidState (state_after state event)
valid_state_after state event valid = by_answer (is_accepted (answer_to state event)) refl
  where
    by_answer : (taken : Bool) → is_accepted (answer_to state event) ≡ taken
        → IsValidState (if taken then accepted state event else state)
    by_answer true is =
        valid_accepted state.draft state.play state.accepted event valid.draft valid.play valid.counted is
    by_answer false is = valid

-- A state that is valid is so after any events.
pub valid_run : (state : State) (events : List Event) → IsValidState state → IsValidState (run state events)
valid_run state [] valid = valid
valid_run state (event ∷ events) valid = valid_run (state_after state event) events
    (valid_state_after state event valid)

-- A state is valid before any event.
pub valid_first_state : IsValidState first_state
valid_first_state = record { draft = lawful_empty; play = λ play is. absurd cc; counted = λ play is. absurd cc }

-- A state is valid after any events from the first.
pub valid_events : (events : List Event) → IsValidState (run first_state events)
valid_events events = valid_run first_state events valid_first_state
