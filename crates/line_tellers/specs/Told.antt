-- What is told of the lines of a stream, one after another. This project's own.
use Rattle.std.specs.Prelude.{ℕ, List, [], ◌∷◌, ◌++◌, map, Option, Some}
use Rattle.floor_text.specs.Lines.{ended_lines}
use Rattle.tournament_events.specs.declared.event.Item.{Item}
use Rattle.tournament_events.specs.declared.event.Item.TheVariants.{Event}
use Rattle.floor_events.specs.Spelling.{answer_text}
use Rattle.tournament_rules.specs.States.{State, first_state}
use Rattle.replay_rules.specs.Replay.{answer_to_item, item_of_cut, state_after_item, state_after_items, items_of_bytes, final_text}
use Rattle.view_rules.specs.Lines.{lines_of_event}
use Rattle.view_rules.specs.Spelling.{lines_text}
use Rattle.view_rules.specs.Views.{told_of}

-- What is told of an item in the state that it comes in, and what at the end in the state that is left.
pub record Telling : Type 0 where
  pub of_item : State → Option Item → List ℕ
  pub at_end : State → List ℕ

-- what is told of items from a state on, one after another
abbrev pub items_told : Telling → State → List (Option Item) → List ℕ
items_told telling state [] = []
items_told telling state (item ∷ items) =
    telling.of_item state item ++ items_told telling (state_after_item state item) items

-- what is told of items from a state on, and then at the end
abbrev pub text_told : Telling → State → List (Option Item) → List ℕ
text_told telling state items = items_told telling state items ++ telling.at_end (state_after_items state items)

-- what is told of the lines of a stream from the first state on, and then at their end
abbrev pub stream_told : Telling → List ℕ → List ℕ
stream_told telling bytes = text_told telling first_state (items_of_bytes bytes)

-- what is told of lines from the first state on, with no end behind them
abbrev pub lines_told : Telling → List (Option (List ℕ)) → List ℕ
lines_told telling lines = items_told telling first_state (map item_of_cut lines)

-- what is told of the lines of a stream that a line feed ends
abbrev pub ended_told : Telling → List ℕ → List ℕ
ended_told telling bytes = lines_told telling (ended_lines bytes)

-- the answer to each item, and at the end the report
abbrev pub answers_told : Telling
answers_told = record { of_item = λ state item. answer_text (answer_to_item state item); at_end = final_text }

-- the lines that tell the player of a name of an event; of a note and of a line that holds nothing there are none
abbrev pub item_seen : List ℕ → State → Option Item → List ℕ
item_seen name state (Some (Event event)) = lines_text (told_of lines_of_event (Some name) state event)
item_seen name state _ = []

-- the lines that tell the player of a name of each event, and nothing at the end
abbrev pub lines_seen : List ℕ → Telling
lines_seen name = record { of_item = item_seen name; at_end = λ state. [] }
