-- What a player is told of the lines of a stream is their text of `view`.
use Rattle.std.proofs.Common.{◌≡◌, ℕ, refl, sym, ap, ◌∙◌, List, [], ◌∷◌, ◌++◌}
use Rattle.std.specs.Prelude.{Option, Some, None}
use Rattle.std.proofs.lemmas.Grind.{flat_map-append}
use Rattle.std.proofs.lemmas.List.{append-nil}
use Rattle.tournament_events.specs.declared.event.Item.{Item}
use Rattle.tournament_events.specs.declared.event.Item.TheVariants.{Event, Note}
use Rattle.tournament_rules.specs.States.{State, first_state, state_after}
use Rattle.replay_rules.specs.Replay.{events_of, items_of_bytes}
use Rattle.view_rules.specs.Lines.{lines_of_event}
use Rattle.view_rules.specs.Spelling.{line_text, lines_text}
use Rattle.view_rules.specs.Views.{told_of, told_from, view_text}
use Rattle.line_tellers.specs.Told.{items_told, stream_told, lines_seen}

items_seen : (name : List ℕ) (state : State) (items : List (Option Item))
    → items_told (lines_seen name) state items
    ≡ lines_text (told_from lines_of_event (Some name) state (events_of items))
items_seen name state [] = refl
items_seen name state (None ∷ items) = items_seen name state items
items_seen name state (Some Note ∷ items) = items_seen name state items
items_seen name state (Some (Event event) ∷ items) =
    let here = told_of lines_of_event (Some name) state event in
    let next : State = state_after state event in
    ap (λ more. lines_text here ++ more) (items_seen name next items)
    ∙ sym (flat_map-append line_text here (told_from lines_of_event (Some name) next (events_of items)))

-- What a player is told of the lines of a stream is its text of `view` for that player.
pub stream_seen : (name bytes : List ℕ) → stream_told (lines_seen name) bytes ≡ view_text name bytes
unfolding view_text
stream_seen name bytes =
    append-nil (items_told (lines_seen name) first_state (items_of_bytes bytes))
    ∙ items_seen name first_state (items_of_bytes bytes)
