-- After a stop nothing is accepted, and nothing changes.
use Rattle.std.proofs.Common.{◌≡◌, ◌≢◌, ◌∙◌, refl, ap, true, List, [], ◌∷◌}
use Rattle.std.specs.Prelude.{Option, Some, None}
use Rattle.floor_text.specs.declared.refusal.Refusal.TheVariants.{NoPlan}
use Rattle.tournament_events.specs.declared.answer.Answer.TheVariants.{Ok, No}
use Rattle.tournament_events.specs.declared.event.Event.{Event}
use Rattle.tournament_events.specs.declared.event.Event.TheVariants.{Stop}
use Rattle.tournament_rules.specs.States.{State, PlayState, answer_to, is_accepted, play_effect, state_after, run}
use Rattle.tournament_rules.proofs.Passed.{passed-parts}
use Rattle.tournament_laws.proofs.ChipLaws.{refused-after}
use Rattle.tournament_rules.proofs.MoveLaws.{not_refused}
use Rattle.tournament_rules.proofs.Going.{goes_on}

-- The tournament is stopped.
record IsStopped (state : State) : Type 0 where
  play : PlayState
  there : state.play ≡ Some play
  stopped : play.book.stopped ≡ true

-- A stopped tournament accepts nothing.
accepts_nothing : (state : State) (event : Event) → IsStopped state → answer_to state event ≢ Ok
accepts_nothing state event is taken =
    let free = (passed-parts is.play event (not_refused state is.play event is.there taken)).0 in
    let going = goes_on is.play.book event free in
    let stopped = is.stopped in
    absurd cc

-- So no event changes it.
changes_nothing : (state : State) (events : List Event) → IsStopped state → run state events ≡ state
changes_nothing state [] is = refl
changes_nothing state (event ∷ events) is =
    ap (λ (state : State). run state events) (refused-after state event (accepts_nothing state event is))
    ∙ changes_nothing state events is

-- It is stopped once a stop is accepted.
is_stopped : (state : State) → answer_to state Stop ≡ Ok → IsStopped (state_after state Stop)
is_stopped state taken = by_play state.play refl
  where
    by_play : (play : Option PlayState) → state.play ≡ play → IsStopped (state_after state Stop)
    by_play None at = let none : No NoPlan ≡ Ok = rw at at taken in absurd cc
    by_play (Some play) at =
        let accepted = ap is_accepted taken in
        record { play = play_effect play Stop; there = rw (accepted, at) refl; stopped = refl }

-- After an accepted stop nothing changes.
pub stopped-run : (state : State) (after : List Event) → answer_to state Stop ≡ Ok
    → run (state_after state Stop) after ≡ state_after state Stop
stopped-run state after taken = changes_nothing (state_after state Stop) after (is_stopped state taken)

-- After an accepted stop nothing is accepted.
pub stopped-refuses : (state : State) (after : List Event) (event : Event) → answer_to state Stop ≡ Ok
    → answer_to (run (state_after state Stop) after) event ≢ Ok
stopped-refuses state after event taken = rw (stopped-run state after taken)
    (accepts_nothing (state_after state Stop) event (is_stopped state taken))
