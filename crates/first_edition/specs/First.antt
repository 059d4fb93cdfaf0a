-- What a stream was answered in the first edition, in which nobody entered twice, no level had an ante, and no plan had
-- a fixed limit. Of each definition that has changed since, this is how it stood; all others are cited, since they
-- stand as they stood. This project's own.
use Rattle.std.specs.Prelude.{◌≡◌, ℕ, ◌+◌, ◌*◌, ◌%◌, Bool, true, false, not, ◌==◌, ◌&&◌, ◌||◌, nat_le, List, [], ◌∷◌, ◌++◌, length, map, filter, codes, Option, Some, None, is_some, option_map, option_and_then, slice_set, if◌then◌else◌}
use Rattle.std.specs.List.{flat_map, list_all}
use Rattle.std.specs.Option.{option_map_or, ForSome}
use Rattle.std.specs.Str.{bytes_eq}
use Rattle.rulebook.specs.Checks.{first_that_holds}
use Rattle.floor_text.specs.Limits.{longest_line}
use Rattle.floor_text.specs.Lines.{lines_of_bytes}
use Rattle.floor_text.specs.declared.refusal.Refusal.{Refusal}
use Rattle.floor_text.specs.declared.refusal.Refusal.TheVariants.{Syntax, ListFull, NotOver}
use Rattle.level_plan.specs.declared.line.PlanLine.{PlanLine}
use Rattle.level_plan.specs.declared.line.PlanLine.TheVariants as lines
use Rattle.level_plan.specs.declared.plan.Blind.{Blind}
use Rattle.level_plan.specs.Limits.{greatest_amount, most_levels}
use Rattle.level_plan.specs.Items.{may_follow}
use Rattle.level_plan.specs.Drafts.{Draft, is_wrong_line, item_of_line}
use Rattle.entry_list.specs.Entries.{is_full}
use Rattle.place_list.specs.declared.standing.Standing.{Standing}
use Rattle.place_list.specs.Standings.{standings_of}
use Rattle.table_engine.specs.declared.start.StartSeat.{StartSeat}
use Rattle.table_engine.specs.declared.record.ActOf.{ActOf}
use Rattle.table_engine.specs.Hands.{HandTerms}
use Rattle.line_words.specs.Rows.{a_number, ◌▸◌, last, Row, row, read_words}
use Rattle.line_words.specs.Words.{words_of_line}
use Rattle.tournament_events.specs.declared.answer.Answer.{Answer}
use Rattle.tournament_events.specs.declared.answer.Answer.TheVariants.{Ok, No, PlanWrong}
use Rattle.tournament_events.specs.declared.event.Event.{Event as EventOfLine}
use Rattle.tournament_events.specs.declared.event.Event.TheVariants as events
use Rattle.tournament_events.specs.declared.event.Item.{Item}
use Rattle.tournament_events.specs.declared.event.Item.TheVariants.{Event, Note}
use Rattle.tournament_events.specs.declared.report.Report.{Report}
use Rattle.floor_events.specs.Grammar.{grammar, is_note}
use Rattle.floor_events.specs.Spelling.{answer_text, report_text}
use Rattle.tournament_rules.specs.Books.{BookState, start_at}
use Rattle.tournament_rules.specs.Checks.{Check, going_checks, newcomer_checks, seat_checks, entry_checks, book_checks}
use Rattle.tournament_rules.specs.Effects.{ended, bust_of, next_group, book_effect}
use Rattle.tournament_rules.specs.Players.{stayed}
use Rattle.tournament_rules.specs.Report.{winner, reported_out, book_report, empty_report}
use Rattle.tournament_rules.specs.States.{State, PlayState, first_state, hand_about, planning_answer, answered, acts_effect, planning_effect, is_accepted}
use Rattle.first_edition.specs.FirstHands.{IsFirstStart, old_act_checks, old_time_checks, old_is_over, old_time_act, old_stack_after_hand, old_players_after}

-- The grammar: there was no line for a re-entry, none for a fixed limit, and a line for blinds had three numbers.
abbrev pub without : List ℕ → List (Row EventOfLine) → List (Row EventOfLine)
without word rows = filter (λ row. not (bytes_eq row.word word)) rows

-- rows with another row in place of the one with its word
abbrev pub with_row : Row EventOfLine → List (Row EventOfLine) → List (Row EventOfLine)
with_row new rows = map (λ old. if bytes_eq old.word new.word then new else old) rows

abbrev pub first_blinds : Row EventOfLine
first_blinds =
    row (codes "blinds") (a_number ▸ a_number ▸ last a_number)
    (λ small big unit. events.Plan (lines.Blinds (record { small = small; big = big; unit = unit; ante = 0 })))

abbrev pub first_grammar : List (Row EventOfLine)
first_grammar = with_row first_blinds (without (codes "limit") (without (codes "reenter") grammar))

-- the item of a line
abbrev pub first_item_of_bytes : List ℕ → Option Item
first_item_of_bytes line =
    if nat_le (length line) longest_line then
    (if is_note line then Some Note else option_map Event (read_words first_grammar (words_of_line line))) else None

abbrev pub first_item_of_cut : Option (List ℕ) → Option Item
first_item_of_cut cut = option_and_then first_item_of_bytes cut

-- whether all lines of a stream are in that grammar
abbrev pub are_first_lines : List ℕ → Bool
are_first_lines bytes = list_all (λ cut. is_some (first_item_of_cut cut)) (lines_of_bytes bytes)

-- the events that had a line: none entered again, none gave a fixed limit, and none gave a level an ante
abbrev pub is_first_event : EventOfLine → Bool
is_first_event (events.Reenter name table seat) = false
is_first_event (events.Plan (lines.Limit n)) = false
is_first_event (events.Plan (lines.Blinds blind)) = blind.ante == 0
is_first_event _ = true

abbrev pub is_first_item : Item → Bool
is_first_item (Event event) = is_first_event event
is_first_item Note = true

-- The plan: a level was lawful by its blinds and its unit.
abbrev pub first_is_blind : Blind → Bool
first_is_blind blind =
    nat_le 1 blind.unit
    && (nat_le 1 blind.small
    && (nat_le blind.small blind.big
    && (nat_le blind.big greatest_amount
    && (blind.small % blind.unit == 0 && blind.big % blind.unit == 0))))

abbrev pub first_is_wrong_line : Draft → PlanLine → Bool
first_is_wrong_line draft (lines.Blinds blind) =
    nat_le most_levels (length draft.blinds) || not (first_is_blind blind && may_follow draft.blinds blind)
first_is_wrong_line draft line = is_wrong_line draft line

abbrev pub first_planning_answer : Draft → EventOfLine → Answer
first_planning_answer draft (events.Plan line) =
    if first_is_wrong_line draft line then PlanWrong (item_of_line line) else Ok
first_planning_answer draft event = planning_answer draft event

-- The checks: an entry found the list full where it had all names, and a hand was played as it was then.
abbrev pub first_enter_checks : BookState → List ℕ → ℕ → ℕ → List Check
first_enter_checks book name table seat =
    going_checks book ++ newcomer_checks book name ++ seat_checks book table seat ++ entry_checks book
    ++ (ListFull, is_full book.entries) ∷ []

abbrev pub first_book_checks : BookState → EventOfLine → List Check
first_book_checks book (events.Enter name table seat) = first_enter_checks book name table seat
first_book_checks book event = book_checks book event

abbrev pub first_hand_checks : HandTerms → EventOfLine → List Check
first_hand_checks hand (events.Act table name act) = old_act_checks hand name act
first_hand_checks hand (events.Time table) = old_time_checks hand
first_hand_checks hand (events.Settle table) = (NotOver, not (old_is_over hand)) ∷ []
first_hand_checks hand event = []

-- What an accepted event made: a hand came to what it came to then.
abbrev pub first_busted_by : HandTerms → List StartSeat
first_busted_by hand = filter (λ player. old_stack_after_hand hand player == 0) hand.start.seats

abbrev pub first_settled : BookState → HandTerms → BookState
first_settled book hand =
    let after = ended book hand.start.table (old_players_after hand) in
    record after {
      seating = record after.seating { players = stayed (first_busted_by hand) after.seating.players };
      busts = book.busts ++ map (bust_of book.group) (first_busted_by hand);
      group = next_group book;
      accepted = book.accepted + 1;
    }

abbrev pub first_book_effect : BookState → Option HandTerms → EventOfLine → BookState
first_book_effect book hand (events.Settle table) = option_map_or (first_settled book) hand book
first_book_effect book hand event = book_effect book hand event

abbrev pub first_acts_effect : List (List ActOf) → Option HandTerms → EventOfLine → List (List ActOf)
first_acts_effect acts hand (events.Time table) =
    slice_set acts table (option_map_or (λ hand. hand.acts ++ old_time_act hand ∷ []) hand [])
first_acts_effect acts hand event = acts_effect acts hand event

abbrev pub first_play_effect : PlayState → EventOfLine → PlayState
first_play_effect play event =
    let hand = hand_about play event in
    record { book = first_book_effect play.book hand event; acts = first_acts_effect play.acts hand event }

abbrev pub first_accepted : State → EventOfLine → State
first_accepted state event =
    let after = option_map_or (λ play. record state { play = Some (first_play_effect play event) }) state.play
    (planning_effect state event) in
    record after { accepted = state.accepted + 1 }

-- The report: each entry sold a stack, and paid one buy-in into the pool.
abbrev pub first_sold_by : BookState → ℕ
first_sold_by book = length book.entries * book.plan.stack

abbrev pub first_standings_in : BookState → List Standing
first_standings_in book =
    standings_of (length book.entries) (winner book) (length book.entries * book.plan.buyin) book.plan.shares book.busts

abbrev pub first_book_report : BookState → Report
first_book_report book = record (book_report book) {
  sold = first_sold_by book;
  outs = map (reported_out book.entries) (first_standings_in book);
}

-- What is made of these: the answer to an event, the step, the answers to a stream, and its text.
abbrev pub first_refusal_of : PlayState → EventOfLine → Option Refusal
first_refusal_of play event =
    first_that_holds
    (first_book_checks play.book event
    ++ option_map_or (λ hand. first_hand_checks hand event) (hand_about play event) [])

abbrev pub first_answer_to : State → EventOfLine → Answer
first_answer_to state event =
    option_map_or (λ play. answered (first_refusal_of play event)) state.play (first_planning_answer state.draft event)

abbrev pub first_state_after : State → EventOfLine → State
first_state_after state event = if is_accepted (first_answer_to state event) then first_accepted state event else state

abbrev pub first_answer_to_item : State → Option Item → Answer
first_answer_to_item state None = No Syntax
first_answer_to_item state (Some (Event event)) = first_answer_to state event
first_answer_to_item state (Some Note) = Ok

abbrev pub first_state_after_item : State → Option Item → State
first_state_after_item state (Some (Event event)) = first_state_after state event
first_state_after_item state _ = state

abbrev pub first_answers_to_items : State → List (Option Item) → List Answer
first_answers_to_items state [] = []
first_answers_to_items state (item ∷ items) =
    first_answer_to_item state item ∷ first_answers_to_items (first_state_after_item state item) items

abbrev pub first_state_after_items : State → List (Option Item) → State
first_state_after_items state [] = state
first_state_after_items state (item ∷ items) = first_state_after_items (first_state_after_item state item) items

abbrev pub first_report_of : State → Report
first_report_of state = option_map_or (λ play. first_book_report play.book) state.play empty_report

abbrev pub first_replay_text : List ℕ → List ℕ
first_replay_text bytes =
    let items = map first_item_of_cut (lines_of_bytes bytes) in
    flat_map answer_text (first_answers_to_items first_state items)
    ++ report_text (first_report_of (first_state_after_items first_state items))

-- What a stream of the first edition leads to: no level has an ante, there is no fixed limit, and nobody entered again.
pub record IsFirstDraft (draft : Draft) : Type 0 where
  pub antes : list_all (λ blind. blind.ante == 0) draft.blinds ≡ true
  pub cap : draft.cap ≡ None

pub record IsFirstBook (book : BookState) : Type 0 where
  pub reentries : book.reentries ≡ 0
  pub antes : list_all (λ blind. blind.ante == 0) book.plan.blinds ≡ true
  pub cap : book.plan.cap ≡ 0
  -- the start of each hand that is played
  pub starts : (table : ℕ) → ForSome (start_at book.started table) IsFirstStart

pub record IsFirstState (state : State) : Type 0 where
  pub draft : IsFirstDraft state.draft
  pub play : ForSome state.play (λ play. IsFirstBook play.book)
