-- The state of a tournament, what an event is answered, and what it makes of the state. This project's own.
use Rattle.std.specs.Prelude.{ℕ, ◌+◌, Bool, true, false, List, [], ◌∷◌, ◌++◌, length, replicate, slice_index_or, slice_set, Option, Some, None, is_none, option_map, if◌then◌else◌}
use Rattle.std.specs.Option.{option_map_or, option_and_then}
use Rattle.rulebook.specs.Checks.{first_that_holds}
use Rattle.floor_text.specs.declared.refusal.Refusal.{Refusal}
use Rattle.floor_text.specs.declared.refusal.Refusal.TheVariants.{NoPlan}
use Rattle.level_plan.specs.Plans.{PlanTerms}
use Rattle.level_plan.specs.Drafts.{Draft, empty_draft, is_wrong_line, item_of_line, draft_after, go_fault, plan_of}
use Rattle.seat_book.specs.declared.seated.Seated.{Seated}
use Rattle.table_engine.specs.declared.record.ActOf.{ActOf}
use Rattle.table_engine.specs.Hands.{HandTerms}
use Rattle.table_engine.specs.Acts.{hand_after_time}
use Rattle.tournament_events.specs.declared.answer.Answer.{Answer}
use Rattle.tournament_events.specs.declared.answer.Answer.TheVariants.{Ok, No, PlanWrong}
use Rattle.tournament_events.specs.declared.event.Event.{Event}
use Rattle.tournament_events.specs.declared.event.Event.TheVariants as events
use Rattle.tournament_rules.specs.Books.{BookState, start_at}
use Rattle.tournament_rules.specs.Checks.{book_checks, book_refusal, hand_checks, is_over_for_all}
use Rattle.tournament_rules.specs.Effects.{first_book, book_effect}

-- a tournament whose plan is whole: its book, and the acts of the hands that are played
pub record PlayState : Type 0 where
  pub book : BookState
  -- by table number, the acts of the hand that is played
  pub acts : List (List ActOf)

pub record State : Type 0 where
  -- what the accepted plan lines have given
  pub draft : Draft
  -- the tournament, once `go` is accepted
  pub play : Option PlayState
  -- how many events are accepted
  pub accepted : ℕ

-- before any event
abbrev pub first_state : State
first_state = record { draft = empty_draft; play = None; accepted = 0 }

-- no act, at any of so many tables
abbrev pub no_acts : ℕ → List (List ActOf)
no_acts tables = replicate (tables + 1) []

-- a tournament before any entry
abbrev pub first_play : PlanTerms → PlayState
first_play plan = record { book = first_book plan; acts = no_acts plan.tables }

-- the acts of the hand that is played at a table
abbrev pub acts_at : List (List ActOf) → ℕ → List ActOf
acts_at acts table = slice_index_or acts table []

-- the hand that is played at a table, if one is: its start, and its acts
abbrev pub hand_at : PlayState → ℕ → Option HandTerms
hand_at play table =
    option_map (λ start. record { start = start; acts = acts_at play.acts table }) (start_at play.book.started table)

-- the table of the hand that an event is about, if it is about one
abbrev pub hand_table : Event → Option ℕ
hand_table (events.Act table name act) = Some table
hand_table (events.Time table) = Some table
hand_table (events.Settle table) = Some table
hand_table _ = None

-- the hand that an event is about, if there is one
abbrev pub hand_about : PlayState → Event → Option HandTerms
hand_about play event = option_and_then (hand_at play) (hand_table event)

-- the table of an event that is an act of a player or a called time, if it is one
abbrev pub act_table : Event → Option ℕ
act_table (events.Act table name act) = Some table
act_table (events.Time table) = Some table
act_table _ = None

-- why an event is refused once there is a plan, if it is: the checks of the book come first, and then those of the hand
unfoldable pub refusal_of : PlayState → Event → Option Refusal
refusal_of play event =
    first_that_holds
    (book_checks play.book event ++ option_map_or (λ hand. hand_checks hand event) (hand_about play event) [])

-- the answer to an event before there is a plan: the plan's own are checked, and all others have no plan
abbrev pub planning_answer : Draft → Event → Answer
planning_answer draft (events.Plan line) =
    if is_wrong_line draft line then PlanWrong (item_of_line line) else Ok
planning_answer draft events.Go = option_map_or PlanWrong (go_fault draft) Ok
planning_answer draft _ = No NoPlan

-- the answer that tells this refusal, or that there is none
abbrev pub answered : Option Refusal → Answer
answered None = Ok
answered (Some refusal) = No refusal

-- what an event is answered
abbrev pub answer_to : State → Event → Answer
answer_to state event =
    option_map_or (λ play. answered (refusal_of play event)) state.play (planning_answer state.draft event)

-- what an accepted event makes of the acts, with the hand that it is about, if there is one
abbrev pub acts_effect : List (List ActOf) → Option HandTerms → Event → List (List ActOf)
acts_effect acts hand (events.Begin table row) = slice_set acts table []
acts_effect acts hand (events.Act table name act) =
    slice_set acts table (acts_at acts table ++ (record { name = name; act = act; by_time = false }) ∷ [])
acts_effect acts hand (events.Time table) =
    slice_set acts table (option_map_or (λ hand. (hand_after_time hand).acts) hand [])
acts_effect acts hand (events.Settle table) = slice_set acts table []
acts_effect acts hand events.Stop = replicate (length acts) []
acts_effect acts hand _ = acts

-- what an accepted event makes of a tournament whose plan is whole
abbrev pub play_effect : PlayState → Event → PlayState
play_effect play event =
    let hand = hand_about play event in
    record { book = book_effect play.book hand event; acts = acts_effect play.acts hand event }

-- what an accepted event makes of a plan's draft, and of the tournament at `go`
abbrev pub planning_effect : State → Event → State
planning_effect state (events.Plan line) = record state { draft = draft_after state.draft line }
planning_effect state events.Go = record state { play = Some (first_play (plan_of state.draft)) }
planning_effect state _ = state

-- what an accepted event makes of the state, but for the count of accepted events
abbrev pub effect : State → Event → State
effect state event = option_map_or (λ play. record state { play = Some (play_effect play event) }) state.play
    (planning_effect state event)

-- whether an answer accepts its event
abbrev pub is_accepted : Answer → Bool
is_accepted Ok = true
is_accepted (No refusal) = false
is_accepted (PlanWrong item) = false

-- the state after an accepted event: one more is accepted
abbrev pub accepted : State → Event → State
accepted state event = record (effect state event) { accepted = state.accepted + 1 }

-- the state after an event: an accepted one has its effect, a refused one changes nothing
abbrev pub state_after : State → Event → State
state_after state event = if is_accepted (answer_to state event) then accepted state event else state

-- the state after all events of a list
abbrev pub run : State → List Event → State
run state [] = state
run state (event ∷ events) = run (state_after state event) events

-- whether the tournament is over, which it is not before there is a plan
abbrev pub is_over_state : State → Bool
is_over_state state = option_map_or (λ play. is_over_for_all play.book) state.play false

-- the players who are in, and nobody before there is a plan
abbrev pub players_of : State → List Seated
players_of state = option_map_or (λ play. play.book.seating.players) state.play []

-- the book after an order: one that is not refused has its effect, a refused one changes nothing
abbrev pub book_after : BookState → Event → BookState
book_after book event = if is_none (book_refusal book event) then book_effect book None event else book

-- a tournament whose plan is whole after an event: an accepted one has its effect, a refused one changes nothing
abbrev pub play_after : PlayState → Event → PlayState
play_after play event = if is_none (refusal_of play event) then play_effect play event else play

-- the answer to each event of a list, once the plan is whole
abbrev pub answers_in_play : PlayState → List Event → List Answer
answers_in_play play [] = []
answers_in_play play (event ∷ events) = answered (refusal_of play event)
    ∷ answers_in_play (play_after play event) events

-- a tournament whose plan is whole after all events of a list
abbrev pub run_in_play : PlayState → List Event → PlayState
run_in_play play [] = play
run_in_play play (event ∷ events) = run_in_play (play_after play event) events

-- the answer to each event of a list
abbrev pub answers : State → List Event → List Answer
answers state [] = []
answers state (event ∷ events) = answer_to state event ∷ answers (state_after state event) events
