-- What a stream of bytes is answered. This project's own.
use Rattle.std.specs.Prelude.{ℕ, List, [], ◌∷◌, ◌++◌, map, Option, Some, None, option_and_then}
use Rattle.std.specs.List.{flat_map}
use Rattle.floor_text.specs.declared.refusal.Refusal.TheVariants.{Syntax}
use Rattle.floor_text.specs.Lines.{lines_of_bytes}
use Rattle.tournament_events.specs.declared.answer.Answer.{Answer}
use Rattle.tournament_events.specs.declared.answer.Answer.TheVariants.{Ok, No}
use Rattle.tournament_events.specs.declared.event.Event.{Event as EventOfLine}
use Rattle.tournament_events.specs.declared.event.Item.{Item}
use Rattle.tournament_events.specs.declared.event.Item.TheVariants.{Event, Note}
use Rattle.floor_events.specs.Grammar.{item_of_bytes}
use Rattle.floor_events.specs.Spelling.{event_text, answer_text, report_text}
use Rattle.tournament_rules.specs.States.{State, first_state, answer_to, state_after, run}
use Rattle.tournament_rules.specs.Report.{report_of}

-- the item of a line, where the line is not too long and in the grammar
abbrev pub item_of_cut : Option (List ℕ) → Option Item
item_of_cut cut = option_and_then item_of_bytes cut

-- an event is answered by the step, and a note is accepted at any moment; a line that holds neither is refused as no
-- line of the grammar
abbrev pub answer_to_item : State → Option Item → Answer
answer_to_item state None = No Syntax
answer_to_item state (Some (Event event)) = answer_to state event
answer_to_item state (Some Note) = Ok

-- an event changes the state by the step; a note and a line that holds nothing change nothing
abbrev pub state_after_item : State → Option Item → State
state_after_item state (Some (Event event)) = state_after state event
state_after_item state _ = state

-- the answers to items in order
abbrev pub answers_to_items : State → List (Option Item) → List Answer
answers_to_items state [] = []
answers_to_items state (item ∷ items) = answer_to_item state item ∷ answers_to_items (state_after_item state item) items

-- the state after items in order
abbrev pub state_after_items : State → List (Option Item) → State
state_after_items state [] = state
state_after_items state (item ∷ items) = state_after_items (state_after_item state item) items

-- the items of the lines of a stream
abbrev pub items_of_bytes : List ℕ → List (Option Item)
items_of_bytes bytes = map item_of_cut (lines_of_bytes bytes)

-- the text of the report at the end
unfoldable pub final_text : State → List ℕ
final_text state = report_text (report_of state)

-- what items are answered from a state on: the text of each answer, and then of the report
abbrev pub text_from : State → List (Option Item) → List ℕ
text_from state items =
    flat_map answer_text (answers_to_items state items) ++ final_text (state_after_items state items)

-- what a stream is answered from the first state on
abbrev pub replay_text : List ℕ → List ℕ
replay_text bytes = text_from first_state (items_of_bytes bytes)

-- the events of items in order, without the notes and the lines that hold nothing
abbrev pub events_of : List (Option Item) → List EventOfLine
events_of [] = []
events_of (Some (Event event) ∷ items) = event ∷ events_of items
events_of (_ ∷ items) = events_of items

-- the item of an event's line
abbrev pub item_of_event : EventOfLine → Option Item
item_of_event event = Some (Event event)

-- an event's line: its text and a line feed
abbrev pub event_line : EventOfLine → List ℕ
event_line event = event_text event ++ 10 ∷ []

-- the text of a tournament: a line for each of its events, and then the report after them
abbrev pub tournament_text : List EventOfLine → List ℕ
tournament_text events = flat_map event_line events ++ final_text (run first_state events)
