-- A book and, by table, the hands that are played, each by itself: who has these answers as the tournament does. This
-- project's own.
use Rattle.std.specs.Prelude.{ℕ, false, List, [], ◌∷◌, map, replicate, length, slice_index_or, slice_set, Option, Some, None, is_none, option_map, if◌then◌else◌}
use Rattle.std.specs.Option.{option_map_or, option_and_then, option_or}
use Rattle.rulebook.specs.Checks.{first_that_holds}
use Rattle.floor_text.specs.declared.refusal.Refusal.{Refusal}
use Rattle.level_plan.specs.Plans.{PlanTerms}
use Rattle.table_engine.specs.declared.start.HandStart.{HandStart}
use Rattle.table_engine.specs.declared.record.ActOf.{ActOf}
use Rattle.table_engine.specs.Hands.{HandTerms}
use Rattle.table_engine.specs.Acts.{hand_after, hand_after_time}
use Rattle.tournament_events.specs.declared.answer.Answer.{Answer}
use Rattle.tournament_events.specs.declared.event.Event.{Event}
use Rattle.tournament_events.specs.declared.event.Event.TheVariants as events
use Rattle.tournament_rules.specs.Books.{BookState, no_hands}
use Rattle.tournament_rules.specs.Checks.{book_refusal, hand_checks}
use Rattle.tournament_rules.specs.Dealing.{next_start}
use Rattle.tournament_rules.specs.Effects.{first_book, book_effect}
use Rattle.tournament_rules.specs.States.{PlayState, hand_table, answered}

pub record Apart : Type 0 where
  pub book : BookState
  -- by table number, the hand that is played
  pub hands : List (Option HandTerms)

-- a book before any entry, and no hand
abbrev pub first_apart : PlanTerms → Apart
first_apart plan = record { book = first_book plan; hands = no_hands plan.tables }

-- the hand at a table, if one is played
abbrev pub hand_in : List (Option HandTerms) → ℕ → Option HandTerms
hand_in hands table = slice_index_or hands table None

-- the start of a hand, which is what the book has of it
abbrev pub start_of : Option HandTerms → Option HandStart
start_of hand = option_map (λ hand. hand.start) hand

-- the acts of a hand
abbrev pub acts_of : Option HandTerms → List ActOf
acts_of hand = option_map_or (λ hand. hand.acts) hand []

-- the tournament that a book and its hands are
abbrev pub seen_of : Apart → PlayState
seen_of apart = record { book = apart.book; acts = map acts_of apart.hands }

-- the hand that an event is about, if one is played
abbrev pub hand_for : List (Option HandTerms) → Event → Option HandTerms
hand_for hands event = option_and_then (hand_in hands) (hand_table event)

-- why a hand refuses an event, if it does
abbrev pub hand_refusal : Event → HandTerms → Option Refusal
hand_refusal event hand = first_that_holds (hand_checks hand event)

-- why an event is refused, if it is: the book is asked first, and then the hand
abbrev pub refusal_apart : Apart → Event → Option Refusal
refusal_apart apart event =
    option_or (book_refusal apart.book event) (option_and_then (hand_refusal event) (hand_for apart.hands event))

-- what an accepted event makes of the hands: one begins, one takes an act, one is settled, or all are void
abbrev pub hands_effect : Apart → Event → List (Option HandTerms)
hands_effect apart (events.Begin table row) =
    slice_set apart.hands table (Some (record { start = next_start apart.book table row.cards; acts = [] }))
hands_effect apart (events.Act table name act) =
    slice_set apart.hands table (option_map (λ hand. hand_after hand name act false) (hand_in apart.hands table))
hands_effect apart (events.Time table) =
    slice_set apart.hands table (option_map hand_after_time (hand_in apart.hands table))
hands_effect apart (events.Settle table) = slice_set apart.hands table None
hands_effect apart events.Stop = replicate (length apart.hands) None
hands_effect apart _ = apart.hands

-- the book and the hands after an event
abbrev pub after_apart : Apart → Event → Apart
after_apart apart event =
    if is_none (refusal_apart apart event)
    then record { book = book_effect apart.book (hand_for apart.hands event) event; hands = hands_effect apart event }
    else apart

-- the answer to each event of a list
abbrev pub answers_apart : Apart → List Event → List Answer
answers_apart apart [] = []
answers_apart apart (event ∷ events) = answered (refusal_apart apart event)
    ∷ answers_apart (after_apart apart event) events

-- the book and the hands after all events of a list
abbrev pub run_apart : Apart → List Event → Apart
run_apart apart [] = apart
run_apart apart (event ∷ events) = run_apart (after_apart apart event) events
