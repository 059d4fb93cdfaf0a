-- The one spelling of each event, answer and report. This project's own.
use Rattle.std.specs.Prelude.{◌≡◌, ℕ, ◌≤◌, true, List, [], ◌∷◌, ◌++◌, length, codes, Option, Some, None}
use Rattle.std.specs.List.{flat_map}
use Rattle.std.specs.Fmt.{decimal}
use Rattle.floor_text.specs.Limits.{longest_line}
use Rattle.floor_text.specs.Refusals.{refusal_number, refusal_name}
use Rattle.level_plan.specs.declared.line.PlanItem.{PlanItem}
use Rattle.level_plan.specs.declared.line.PlanItem.TheVariants as items
use Rattle.tournament_events.specs.declared.event.Event.{Event}
use Rattle.tournament_events.specs.declared.event.Item.{Item}
use Rattle.tournament_events.specs.declared.event.Item.TheVariants as found
use Rattle.tournament_events.specs.declared.answer.Answer.{Answer}
use Rattle.tournament_events.specs.declared.answer.Answer.TheVariants as answers
use Rattle.tournament_events.specs.declared.report.Report.{Report}
use Rattle.tournament_events.specs.declared.report.ReportSeat.{ReportSeat}
use Rattle.tournament_events.specs.declared.report.ReportOut.{ReportOut}
use Rattle.line_words.specs.Words.{line_of_words}
use Rattle.line_words.specs.Rows.{text_of, IsLawfulLine}
use Rattle.floor_events.specs.Grammar.{line_of, is_note}

-- the word of an item, as an answer names it
abbrev pub item_word : PlanItem → List ℕ
item_word items.Toml = codes "toml"
item_word items.Game = codes "game"
item_word items.Tables = codes "tables"
item_word items.Seats = codes "seats"
item_word items.Stack = codes "stack"
item_word items.Buyin = codes "buyin"
item_word items.Late = codes "late"
item_word items.Blinds = codes "blinds"
item_word items.Shares = codes "shares"
item_word items.Limit = codes "limit"
item_word items.FloorWord = codes "floor_word"
item_word items.Words = codes "words"

-- an event's text: the words of its line with one space between each two
unfoldable pub event_text : Event → List ℕ
event_text event = text_of (line_of event)

-- the parts of an event are such as a line may hold
unfoldable pub HasLineParts : Event → Type 0
HasLineParts event = IsLawfulLine (line_of event)

-- An event is writable where its parts are such as a line may hold and its text has at most 400 bytes.
pub record IsWritable (event : Event) : Type 0 where
  pub parts : HasLineParts event
  pub short : length (event_text event) ≤ longest_line

-- A note is a line of at most 400 bytes whose first byte is `*`.
pub record IsNote (line : List ℕ) : Type 0 where
  pub star : is_note line ≡ true
  pub short : length line ≤ longest_line

-- A line is in the grammar exactly where it is a note or the text of a writable event.
abbrev pub IsLineOf : Item → List ℕ → Type 0
IsLineOf (found.Event event) line = IsWritable event × (line ≡ event_text event)
IsLineOf found.Note line = IsNote line

-- an answer's text, with its line feed
abbrev pub answer_text : Answer → List ℕ
answer_text answers.Ok = line_of_words (codes "ok" ∷ [])
answer_text (answers.No refusal) =
    line_of_words (codes "no" ∷ decimal (refusal_number refusal) ∷ refusal_name refusal ∷ [])
answer_text (answers.PlanWrong item) = line_of_words (codes "no" ∷ codes "4" ∷ codes "PlanWrong" ∷ item_word item ∷ [])

-- a stack at rest, or the word `play` for a player who is in a started hand
abbrev pub stack_word : Option ℕ → List ℕ
stack_word None = codes "play"
stack_word (Some stack) = decimal stack

-- the line of a player who is in
abbrev pub seat_line : ReportSeat → List ℕ
seat_line seat =
    let place = decimal seat.place.table ∷ decimal seat.place.seat ∷ [] in
    line_of_words (codes "*" ∷ codes "seat" ∷ place ++ seat.name ∷ stack_word seat.stack ∷ [])

-- the line of a player who is out, or of the winner
abbrev pub out_line : ReportOut → List ℕ
out_line out = line_of_words (codes "*" ∷ codes "out" ∷ decimal out.place ∷ out.name ∷ decimal out.prize ∷ [])

-- a line of one amount
abbrev pub amount_line : List ℕ → ℕ → List ℕ
amount_line word amount = line_of_words (codes "*" ∷ word ∷ decimal amount ∷ [])

-- the first lines of a report: what it is, the level and the amounts
abbrev pub report_head : Report → List ℕ
report_head report =
    line_of_words (codes "*" ∷ codes "report" ∷ []) ++
    (amount_line (codes "level") report.level ++
    (amount_line (codes "sold") report.sold ++
    (amount_line (codes "removed") report.removed ++
    (amount_line (codes "added") report.added ++
    (amount_line (codes "rest") report.rest ++
    amount_line (codes "play") report.play)))))

-- the last line of a report
abbrev pub report_end : List ℕ
report_end = line_of_words (codes "*" ∷ codes "end" ∷ [])

-- a report's text: its first lines, the players who are in, those who are out, and the end
abbrev pub report_text : Report → List ℕ
report_text report =
    report_head report ++ (flat_map seat_line report.seats ++ (flat_map out_line report.outs ++ report_end))
