-- The history of the floor: the journal. This project's own.
use Rattle.std.specs.Prelude.{◌≡◌, ℕ, ◌+◌, Bool, true, false, not, ◌==◌, ◌&&◌, List, [], ◌∷◌, ◌++◌, map, fold, Option, Some, None, option_map, option_to_list, if◌then◌else◌}
use Rattle.std.specs.List.{flat_map, list_all, list_any}
use Rattle.std.specs.Option.{option_map_or}
use Rattle.card_set.specs.declared.card.CardRow.{CardRow}
use Rattle.level_plan.specs.Drafts.{plan_of}
use Rattle.seat_book.specs.Players.{players_at}
use Rattle.seat_book.specs.declared.place.Place.{Place}
use Rattle.seat_book.specs.Seatings.{Seating}
use Rattle.balance_rule.specs.Filling.{fill_seats, names_at}
use Rattle.break_draw.specs.declared.random.DrawKind.TheVariants.{Seats, Names}
use Rattle.break_draw.specs.Generator.{drawn_order}
use Rattle.table_engine.specs.declared.start.HandStart.{HandStart}
use Rattle.table_engine.specs.declared.record.ActOf.{ActOf}
use Rattle.table_engine.specs.Hands.{HandTerms}
use Rattle.table_engine.specs.Results.{players_after}
use Rattle.tournament_events.specs.declared.event.Event.{Event}
use Rattle.tournament_events.specs.declared.event.Event.TheVariants as events
use Rattle.tournament_rules.specs.Books.{BookState, start_at}
use Rattle.tournament_rules.specs.Dealing.{next_start}
use Rattle.tournament_rules.specs.Effects.{first_book, raced}
use Rattle.tournament_rules.specs.Kinds.{kind_of, is_played}
use Rattle.tournament_rules.specs.States.{State, first_state, answers, is_accepted, run}
use Rattle.view_rules.specs.declared.entries.JournalEntry.{JournalEntry}
use Rattle.view_rules.specs.declared.entries.StackLine.{StackLine}
use Rattle.view_rules.specs.Lines.{stack_after, stack_at_rest}
use Rattle.simulation_rules.specs.Steps.{row_drawn}

-- who made an entry
abbrev pub journal_caller : JournalEntry → ℕ
journal_caller entry = entry.caller

-- an act as an event at its table: time was called on the player, or he acted
abbrev pub act_event : ℕ → ActOf → Event
act_event table act = if act.by_time then events.Time table else events.Act table act.name act.act

-- the acts that come before an event: before a settle those of its hand
abbrev pub acts_before : Event → List ActOf → List Event
acts_before (events.Settle table) acts = map (act_event table) acts
acts_before _ acts = []

-- the events of an entry: its own, and before a settle the acts of its hand
abbrev pub events_of : JournalEntry → List Event
events_of entry = acts_before entry.event entry.acts ++ entry.event ∷ []

-- The events of a journal, with the acts of each settled hand before its settle.
abbrev pub expand : List JournalEntry → List Event
expand journal = flat_map events_of journal

-- each event of a list is accepted in its turn
abbrev pub are_accepted : State → List Event → Bool
are_accepted state events = list_all is_accepted (answers state events)

-- a list of events is legal where each is accepted from the first state on
abbrev pub is_legal_list : List Event → Bool
is_legal_list events = are_accepted first_state events

-- A hand that began, and who began it.
pub record Begun : Type 0 where
  pub by : ℕ
  pub start : HandStart

-- A hand that was settled, and who settled it.
pub record Settled : Type 0 where
  pub by : ℕ
  pub hand : HandTerms

-- What a journal comes to.
pub record Tale : Type 0 where
  -- the seed of all decks and draws, which each entry has
  pub seed : List ℕ
  -- the tournament after its events
  pub state : State
  -- who began the last hand of a table
  pub holder : ℕ → ℕ
  -- all hands that began and all that were settled, in order
  pub begun : List Begun
  pub settled : List Settled
  -- the number of its entries
  pub count : ℕ
  -- whether the last entry is the stop
  pub ended : Bool
  -- whether each entry was allowed as it came
  pub legal : Bool
  -- the journal made again from who brought what, with the decks, the draws and all that is told of it
  pub again : List JournalEntry

-- the book of a tale; before the plan is whole that of what was given of it
abbrev pub book_of : Tale → BookState
book_of tale = option_map_or (λ play. play.book) tale.state.play (first_book (plan_of tale.state.draft))

-- the row of the next deck: it is drawn by the number of the journal's entries
abbrev pub next_row : Tale → CardRow
next_row tale = row_drawn tale.seed tale.count

-- the seats that are drawn of a fill list, where there is one
abbrev pub seats_drawn : Tale → Option (List Place) → List Place
seats_drawn tale None = []
seats_drawn tale (Some fill) = drawn_order tale.seed Seats tale.count fill

-- the break of a table by the next draw: of the seats of its fill list, and of the names of its players in rising seat
abbrev pub next_break : Tale → ℕ → Event
next_break tale table =
    let seating : Seating = (book_of tale).seating in
    events.Break table (seats_drawn tale (fill_seats seating table))
    (drawn_order tale.seed Names tale.count (names_at seating table))

-- an event with the deck and the draw that come next
abbrev pub with_draws : Tale → Event → Event
with_draws tale (events.Begin table row) = events.Begin table (next_row tale)
with_draws tale (events.Race table row) = events.Race table (next_row tale)
with_draws tale (events.Break table seats names) = next_break tale table
with_draws tale event = event

-- the number that is told of a hand that begins, and 0 where none does
abbrev pub serial_of : Tale → Event → ℕ
serial_of tale (events.Begin table row) = (book_of tale).begun + 1
serial_of tale event = 0

-- the hand that is out at a table with these acts, if one is out
abbrev pub hand_out : Tale → ℕ → List ActOf → Option HandTerms
hand_out tale table acts =
    option_map (λ start. record { start = start; acts = acts }) (start_at (book_of tale).started table)

-- the acts that are kept of an event: of a settle those of its hand
abbrev pub acts_kept : Event → List ActOf → List ActOf
acts_kept (events.Settle table) acts = acts
acts_kept _ acts = []

-- the stacks that are told of an event: after a settle those of the hand's players, and after a race those of the
-- table's, in rising seat
abbrev pub stacks_of : Tale → Event → List ActOf → List StackLine
stacks_of tale (events.Settle table) acts =
    option_map_or (λ hand. map (stack_after table) (players_after hand)) (hand_out tale table acts) []
stacks_of tale (events.Race table row) acts =
    map stack_at_rest (players_at (raced (book_of tale) table row.cards).seating.players table)
stacks_of tale event acts = []

-- The entry of an event that a caller brings, with the acts of its hand where it settles one.
abbrev pub entry_told : Tale → ℕ → Event → List ActOf → JournalEntry
entry_told tale caller event acts = record {
  caller = caller;
  seed = tale.seed;
  event = event;
  serial = serial_of tale event;
  acts = acts;
  stacks = stacks_of tale event acts;
}

-- the entry of an event of which is told nothing besides
abbrev pub plain_entry : ℕ → List ℕ → Event → JournalEntry
plain_entry caller seed event =
    record { caller = caller; seed = seed; event = event; serial = 0; acts = []; stacks = [] }

-- the tale with the seed of the first entry
abbrev pub seeded : Tale → JournalEntry → Tale
seeded tale entry = record tale { seed = if tale.count == 0 then entry.seed else tale.seed }

-- an entry made again
abbrev pub entry_again : Tale → JournalEntry → JournalEntry
entry_again tale entry =
    entry_told tale entry.caller (with_draws tale entry.event) (acts_kept entry.event entry.acts)

-- a settle comes from who began its hand
abbrev pub is_brought_back : Tale → ℕ → Event → Bool
is_brought_back tale caller (events.Settle table) = tale.holder table == caller
is_brought_back tale caller _ = true

-- An entry may come next: its events are accepted one after another, its own is no act and no called time, and a settle
-- comes from who began its hand.
abbrev pub may_come : Tale → JournalEntry → Bool
may_come tale entry =
    are_accepted tale.state (events_of entry) && (not (is_played (kind_of entry.event))
    && is_brought_back tale entry.caller entry.event)

-- the function with another value at one number
abbrev pub put : (ℕ → ℕ) → ℕ → ℕ → ℕ → ℕ
put f table value other = if other == table then value else f other

-- who began the last hand of a table, after an event
abbrev pub holder_after : Tale → ℕ → Event → ℕ → ℕ
holder_after tale caller (events.Begin table row) = put tale.holder table caller
holder_after tale caller _ = tale.holder

-- the hand that an event begins
abbrev pub begun_by : Tale → ℕ → Event → List Begun
begun_by tale caller (events.Begin table row) =
    record { by = caller; start = next_start (book_of tale) table row.cards } ∷ []
begun_by tale caller _ = []

-- the hand that an event settles
abbrev pub settled_by : Tale → ℕ → Event → List ActOf → List Settled
settled_by tale caller (events.Settle table) acts =
    option_to_list (option_map (λ hand. record { by = caller; hand = hand }) (hand_out tale table acts))
settled_by tale caller _ acts = []

-- whether an event is the stop
abbrev pub is_stop : Event → Bool
is_stop events.Stop = true
is_stop _ = false

-- what an entry makes of a tale that has its seed
abbrev pub told_next : Tale → JournalEntry → Tale
told_next tale entry = record {
  seed = tale.seed;
  state = run tale.state (events_of entry);
  holder = holder_after tale entry.caller entry.event;
  begun = tale.begun ++ begun_by tale entry.caller entry.event;
  settled = tale.settled ++ settled_by tale entry.caller entry.event entry.acts;
  count = tale.count + 1;
  ended = is_stop entry.event;
  legal = tale.legal && may_come tale entry;
  again = tale.again ++ entry_again tale entry ∷ [];
}

-- what an entry makes of a tale
abbrev pub told_one : Tale → JournalEntry → Tale
told_one tale entry = told_next (seeded tale entry) entry

-- the tale of no entry
abbrev pub first_tale : Tale
first_tale = record {
  seed = [];
  state = first_state;
  holder = λ _. 0;
  begun = [];
  settled = [];
  count = 0;
  ended = false;
  legal = true;
  again = [];
}

-- The tale of a journal: its entries, one after another.
unfoldable pub tale_of : List JournalEntry → Tale
tale_of journal = fold told_one first_tale journal

-- A journal is legal where each entry was allowed as it came, and it is what is told of who brought what: each entry
-- has the one seed, each begin and race the deck and each break the draw of its place, and each the stacks after it.
pub record IsLegalJournal (journal : List JournalEntry) : Type 0 where
  pub allowed : (tale_of journal).legal ≡ true
  pub told : (tale_of journal).again ≡ journal

-- an event ends the hand that is out at a table: it settles it, or is the stop
abbrev pub ends_hand : ℕ → Event → Bool
ends_hand table (events.Settle other) = other == table
ends_hand table event = is_stop event

-- the start of the hand that an entry begins, unless an entry behind it ends that hand
abbrev pub kept_out : List JournalEntry → Begun → List HandStart
kept_out rest begun =
    if list_any (λ entry. ends_hand begun.start.table entry.event) rest then [] else begun.start ∷ []

-- the starts that the entries behind a tale leave out
abbrev pub left_out : Tale → List JournalEntry → List HandStart
left_out tale [] = []
left_out tale (entry ∷ rest) =
    flat_map (kept_out rest) (begun_by (seeded tale entry) entry.caller entry.event)
    ++ left_out (told_one tale entry) rest

-- The starts that a journal has out: those of hands with no later settle of their table and no later stop.
abbrev pub hands_out : List JournalEntry → List HandStart
hands_out journal = left_out first_tale journal

-- The hand of a start is out with this caller, unless the tournament was stopped.
abbrev pub Has : ℕ → HandStart → Tale → Type 0
Has caller start tale = (book_of tale).stopped ≡ false
    → (start_at (book_of tale).started start.table ≡ Some start) × (tale.holder start.table ≡ caller)
