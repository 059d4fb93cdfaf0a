-- The answers that stand at a journal. This project's own.
use Rattle.std.specs.Prelude.{◌≡◌, ℕ, Bool, true, false, List, find, Option, Some, None, option_map, unwrap_or, if◌then◌else◌}
use Rattle.std.specs.List.{flat_map}
use Rattle.std.specs.Option.{option_map_or}
use Rattle.std.specs.Str.{bytes_eq}
use Rattle.floor_text.specs.declared.refusal.Refusal.{Refusal}
use Rattle.floor_text.specs.declared.refusal.Refusal.TheVariants.{Stopped}
use Rattle.seat_book.specs.declared.place.Place.{Place}
use Rattle.seat_book.specs.declared.seated.Seated.{Seated}
use Rattle.table_engine.specs.Hands.{HandTerms}
use Rattle.tournament_events.specs.declared.answer.Answer.{Answer}
use Rattle.tournament_events.specs.declared.answer.Answer.TheVariants as answers
use Rattle.tournament_events.specs.declared.event.Event.{Event}
use Rattle.tournament_events.specs.declared.event.Event.TheVariants as events
use Rattle.tournament_rules.specs.Checks.{is_over_for_all}
use Rattle.tournament_rules.specs.Dealing.{next_start}
use Rattle.tournament_rules.specs.States.{answer_to}
use Rattle.floor_director.specs.Orders.{next_order}
use Rattle.view_rules.specs.declared.entries.JournalEntry.{JournalEntry}
use Rattle.view_rules.specs.Spelling.{lines_text}
use Rattle.view_rules.specs.Entries.{begun, journal_lines}
use Rattle.dock_rules.specs.declared.asks.Ask.{Ask}
use Rattle.dock_rules.specs.declared.asks.Ask.TheVariants as asks
use Rattle.dock_rules.specs.declared.asks.AskAnswer.{AskAnswer}
use Rattle.dock_rules.specs.declared.asks.AskAnswer.TheVariants.{Ok, No, NoOrder, NoMemory}
use Rattle.dock_rules.specs.Journals.{Tale, book_of, next_break, next_row}

-- the refusal that an answer tells, if it tells one
abbrev pub refusal_told : Answer → Option Refusal
refusal_told answers.Ok = None
refusal_told (answers.No refusal) = Some refusal
refusal_told (answers.PlanWrong item) = None

-- Why an event is refused at a journal, if it is: as the tournament refuses it after the journal's events.
abbrev pub refusal_at : Tale → Event → Option Refusal
refusal_at tale event = refusal_told (answer_to tale.state event)

-- the event of a begin: with the deck that comes next
abbrev pub next_begin : Tale → ℕ → Event
next_begin tale table = events.Begin table (next_row tale)

-- the hand that a begin gives: with no acts
abbrev pub hand_begun : Tale → ℕ → HandTerms
hand_begun tale table = begun (next_start (book_of tale) table (next_row tale).cards)

-- the order that is owed: none once the tournament is over
abbrev pub order_owed : Tale → Option Event
order_owed tale =
    if is_over_for_all (book_of tale) then None
    else next_order (book_of tale).seating tale.seed tale.count

-- The event that an ask comes to at a journal, with the deck or the draw that comes next; none where no order is owed.
abbrev pub event_asked : Tale → Ask → Option Event
event_asked tale (asks.Enter name table seat) = Some (events.Enter name table seat)
event_asked tale (asks.Reenter name table seat) = Some (events.Reenter name table seat)
event_asked tale (asks.Balance from to) = Some (events.Balance from to)
event_asked tale (asks.Break table) = Some (next_break tale table)
event_asked tale asks.Level = Some events.Level
event_asked tale (asks.Race table) = Some (events.Race table (next_row tale))
event_asked tale (asks.Hands on) = Some (events.Hands on)
event_asked tale asks.Round = Some events.Round
event_asked tale asks.Stop = Some events.Stop
event_asked tale asks.NextOrder = order_owed tale

-- the answer that tells this refusal, or that there is none
abbrev pub told_as : Option Refusal → AskAnswer
told_as None = Ok
told_as (Some refusal) = No refusal

-- the answer to the event that an ask comes to, where it comes to one
abbrev pub event_answer : Tale → Option Event → AskAnswer
event_answer tale event = option_map_or (λ event. told_as (refusal_at tale event)) event NoOrder

-- What an ask is answered at a journal: what its event is. The next order is refused where the tournament is stopped,
-- and there is none where none is owed.
abbrev pub ask_answer : Tale → Ask → AskAnswer
ask_answer tale asks.NextOrder =
    if (book_of tale).stopped then No Stopped else event_answer tale (order_owed tale)
ask_answer tale ask = event_answer tale (event_asked tale ask)

-- whether an answer is a refusal
abbrev pub is_refusal : AskAnswer → Bool
is_refusal (No refusal) = true
is_refusal _ = false

-- An answer is the one wanted; memory runs out only where that is no refusal.
abbrev pub IsAskAnswer : AskAnswer → AskAnswer → Type 0
IsAskAnswer wanted NoMemory = is_refusal wanted ≡ false
IsAskAnswer wanted answer = answer ≡ wanted

-- whether an answer says that the ask was carried out
abbrev pub is_done : AskAnswer → Bool
is_done Ok = true
is_done _ = false

-- the event that was carried out, where an ask was
abbrev pub event_done : Tale → Ask → Event
event_done tale ask = unwrap_or (event_asked tale ask) events.Stop

-- where the player of a name sits, if he does
abbrev pub place_named : List Seated → List ℕ → Option Place
place_named players name = option_map (λ seated. seated.place) (find (λ seated. bytes_eq seated.name name) players)

-- Where the player of a name sits at a journal, if he does.
abbrev pub place_of_name : Tale → List ℕ → Option Place
place_of_name tale name = place_named (book_of tale).seating.players name

-- The text of what the floor tells of entries, one after another.
abbrev pub journal_text : List JournalEntry → List ℕ
journal_text entries = flat_map (λ entry. lines_text (journal_lines entry)) entries
