-- What is told by answers and a report is the text of `replay`.
use Rattle.std.proofs.Common.{◌≡◌, ℕ, refl, ap, List, [], ◌∷◌, ◌++◌}
use Rattle.std.specs.Prelude.{Option}
use Rattle.std.specs.List.{flat_map}
use Rattle.floor_events.specs.Spelling.{answer_text}
use Rattle.tournament_events.specs.declared.event.Item.{Item}
use Rattle.tournament_rules.specs.States.{State, first_state}
use Rattle.replay_rules.specs.Replay.{answer_to_item, state_after_item, answers_to_items, state_after_items, items_of_bytes, final_text, replay_text}
use Rattle.line_tellers.specs.Told.{items_told, stream_told, answers_told}

items_answered : (state : State) (items : List (Option Item))
    → items_told answers_told state items ≡ flat_map answer_text (answers_to_items state items)
items_answered state [] = refl
items_answered state (item ∷ items) =
    ap (λ more. answer_text (answer_to_item state item) ++ more) (items_answered (state_after_item state item) items)

-- Answers to the lines of a stream and then the report are its text of `replay`.
pub stream_answered : (bytes : List ℕ) → stream_told answers_told bytes ≡ replay_text bytes
stream_answered bytes =
    ap (λ told. told ++ final_text (state_after_items first_state (items_of_bytes bytes)))
    (items_answered first_state (items_of_bytes bytes))
