-- What is told of an event once a tournament has taken it, or refused it.
use Rattle.std.proofs.Common.{◌≡◌, ◌∙◌, sym, ap, ℕ, Bool, true, false, cond, List, [], ◌++◌}
use Rattle.tournament_events.specs.declared.event.Event.{Event}
use Rattle.tournament_rules.specs.States.{State, answer_to, is_accepted, state_after}
use Rattle.view_rules.specs.Shown.{Viewer}
use Rattle.view_rules.specs.Seen.{seen_by, seen_event}
use Rattle.view_rules.specs.Spelling.{lines_text}
use Rattle.view_rules.specs.Lines.{lines_of_event}
use Rattle.view_rules.specs.Views.{told_of}
use Rattle.player_view.proofs.Texts.{nothing-more}
use Rattle.floor_view.specs.Told.{text_of, text_between}

-- the text of the lines that an event has where it is accepted
abbrev text_if : Viewer → State → Event → Bool → List ℕ
text_if who state event accepted =
    lines_text (cond accepted (lines_of_event (seen_by who state) (seen_event event)
    (seen_by who (state_after state event))) [])

-- Of an accepted event what is seen before it and after it tells.
text-accepted : (who : Viewer) (state : State) (event : Event) → is_accepted (answer_to state event) ≡ true
    → text_between who state event (state_after state event) ≡ text_of who state event
unfolding text_of text_between
text-accepted who state event accepted = sym (ap (text_if who state event) accepted)

-- Of a refused event nothing is told.
text-refused : (who : Viewer) (state : State) (event : Event) → is_accepted (answer_to state event) ≡ false
    → [] ≡ text_of who state event
unfolding text_of
text-refused who state event refused = sym (ap (text_if who state event) refused)

-- What was written of an accepted event, from what is seen before it and after it, is what tells of it.
pub written-accepted : (who : Viewer) (state after : State) (event : Event) (old new : List ℕ)
    → is_accepted (answer_to state event) ≡ true → after ≡ state_after state event
    → new ≡ old ++ text_between who state event after → new ≡ old ++ text_of who state event
written-accepted who state after event old new accepted is written =
    written
    ∙ ap (λ (text : List ℕ). old ++ text)
    (ap (text_between who state event) is ∙ text-accepted who state event accepted)

-- Where nothing was written of a refused event, that is what tells of it.
pub written-refused : (who : Viewer) (state : State) (event : Event) (old : List ℕ)
    → is_accepted (answer_to state event) ≡ false → old ≡ old ++ text_of who state event
written-refused who state event old refused = nothing-more old _ (text-refused who state event refused)

-- What tells of an event, as it is spelled.
pub spelled : (who : Viewer) (state : State) (event : Event) (old new : List ℕ)
    → new ≡ old ++ text_of who state event
    → new ≡ old ++ lines_text (told_of lines_of_event who state event)
unfolding text_of
spelled who state event old new told = told
