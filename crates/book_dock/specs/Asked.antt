-- What the event of an ask is, as it is made. This project's own.
use Rattle.std.specs.Prelude.{◌≡◌, true, false, List, [], map, Option, Some, None, Result, Ok, Err, MatchResult}
use Rattle.floor_text.specs.declared.refusal.Refusal.{Refusal}
use Rattle.seat_book.specs.Players.{players_at}
use Rattle.tournament_events.specs.declared.event.Event.{Event}
use Rattle.tournament_events.specs.declared.event.Event.TheVariants as events
use Rattle.table_engine.specs.declared.record.ActFault.{ActFault}
use Rattle.table_engine.specs.declared.record.ActFault.TheVariants as faults
use Rattle.tournament_rules.specs.Books.{BookState}
use Rattle.tournament_rules.specs.Kinds.{is_order}
use Rattle.view_rules.specs.declared.entries.StackLine.{StackLine}
use Rattle.view_rules.specs.Lines.{stack_at_rest}
use Rattle.dock_rules.specs.declared.asks.Ask.{Ask}
use Rattle.dock_rules.specs.declared.asks.AskAnswer.TheVariants as answers
use Rattle.dock_rules.specs.Journals.{Tale, with_draws}
use Rattle.dock_rules.specs.Points.{ask_answer, event_asked, is_refusal, refusal_at, told_as}

-- What was made of an ask: its event, by whose refusal it is answered; that no order is owed; or the refusal that it is
-- answered; memory runs out only where it is no refusal.
abbrev pub IsAsked : Tale → Ask → Result (Option Event) ActFault → Type 0
IsAsked tale ask (Ok (Some event)) =
    (event_asked tale ask ≡ Some event) × (is_order event ≡ true) × (with_draws tale event ≡ event)
    × (ask_answer tale ask ≡ told_as (refusal_at tale event))
IsAsked tale ask (Ok None) = ask_answer tale ask ≡ answers.NoOrder
IsAsked tale ask (Err (faults.No refusal)) = ask_answer tale ask ≡ answers.No refusal
IsAsked tale ask (Err faults.NoMemory) = is_refusal (ask_answer tale ask) ≡ false

-- a result tells the refusal, where there is one
abbrev pub IsRefused : {T : Type 0} → Option Refusal → Result T Refusal → Type 0
IsRefused refusal result = MatchResult result (λ _. refusal ≡ None) (λ found. refusal ≡ Some found)

-- the stacks at rest that are told of an event after it: those of a race's table
abbrev pub rest_lines : Event → BookState → List StackLine
rest_lines (events.Race table row) book = map stack_at_rest (players_at book.seating.players table)
rest_lines event book = []
