-- What the events of a tournament come of: what clients asked for by their lines. This project's own.
use Rattle.std.specs.Prelude.{◌≤◌, ◌==◌, ◌&&◌, ◌+◌, ℕ, Bool, true, false, not, List, [], ◌∷◌, Option, Some, None, count_by, option_map, option_and_then, if◌then◌else◌}
use Rattle.std.specs.List.{filter_map}
use Rattle.std.specs.Option.{option_map_or}
use Rattle.std.specs.Str.{bytes_eq}
use lib.Pointwise.{pointwise}
use Rattle.seat_book.specs.declared.place.Place.{Place}
use Rattle.tournament_events.specs.declared.event.Event.{Event}
use Rattle.tournament_events.specs.declared.event.Event.TheVariants as events
use Rattle.view_rules.specs.declared.entries.JournalEntry.{JournalEntry}
use Rattle.dock_rules.specs.declared.asks.Ask.TheVariants as asks
use Rattle.dock_rules.specs.Journals.{Tale, expand, first_tale, told_one}
use Rattle.dock_rules.specs.Points.{order_owed}
use Rattle.session_lines.specs.declared.hello.Speaker.{Speaker}
use Rattle.session_lines.specs.declared.hello.Speaker.TheVariants.{Floor, Player}
use Rattle.session_lines.specs.declared.request.Request.{Request}
use Rattle.session_lines.specs.declared.request.Request.TheVariants as requests
use Rattle.session_lines.specs.Requests.{request_of}
use Rattle.floor_crew.specs.Asks.{LineSaid}

-- Something that somebody asks for.
pub record Wish : Type 0 where
  pub who : Speaker
  pub what : Request

-- what somebody asks for by a line, if it is in his grammar
abbrev pub wish_said : LineSaid → Option Wish
wish_said said =
    option_map (λ (what : Request). record { who = said.who; what = what })
    (option_and_then (request_of said.who) said.line)

-- what the floor asks for
abbrev pub by_floor : Request → Option Wish
by_floor what = Some (record { who = Floor; what = what })

-- What an event comes of: an act of what its player asks for, and a called time and an order of what the floor asks
-- for, without the deck. The plan's lines, a begin and a settle come of no wish, and a balance and a break may be owed.
abbrev pub wish_of : Event → Option Wish
wish_of (events.Act table name act) = Some (record { who = Player name; what = requests.Act table name act })
wish_of (events.Time table) = by_floor (requests.Time table)
wish_of (events.Enter name table seat) = by_floor (requests.Order (asks.Enter name table seat))
wish_of (events.Reenter name table seat) = by_floor (requests.Order (asks.Reenter name table seat))
wish_of events.Level = by_floor (requests.Order asks.Level)
wish_of (events.Race table row) = by_floor (requests.Order (asks.Race table))
wish_of (events.Hands on) = by_floor (requests.Order (asks.Hands on))
wish_of events.Round = by_floor (requests.Order asks.Round)
wish_of events.Stop = by_floor (requests.Order asks.Stop)
wish_of event = None

-- Each item comes in one list at most as often as in another: so it is with all that pass any test.
abbrev pub ComeAtMostAsOften : {A : Type 0} → List A → List A → Type 0
ComeAtMostAsOften {A} one other = (test : A → Bool) → count_by test one ≤ count_by test other

-- whether somebody asks for a balance or a break by its name
abbrev pub is_move_asked : Speaker → Request → Bool
is_move_asked Floor (requests.Order (asks.Balance from to)) = true
is_move_asked Floor (requests.Order (asks.Break table)) = true
is_move_asked who what = false

-- whether the floor wishes for a balance or a break by its name
abbrev pub is_move_wished : Wish → Bool
is_move_wished wish = is_move_asked wish.who wish.what

-- whether two places are the same
abbrev pub same_place : Place → Place → Bool
same_place one other = (one.table == other.table) && (one.seat == other.seat)

-- whether an event is a balance or a break
abbrev pub is_move : Event → Bool
is_move (events.Balance from to) = true
is_move (events.Break table seats names) = true
is_move event = false

-- whether two events are the same balance, or the same break with the same draw
abbrev pub same_move : Event → Event → Bool
same_move (events.Balance from to) (events.Balance from' to') = (from == from') && (to == to')
same_move (events.Break table seats names) (events.Break table' seats' names') =
    (table == table') && (pointwise same_place seats seats' && pointwise bytes_eq names names')
same_move one other = false

-- whether an event is a balance or a break, and not the order that is owed after a tale
abbrev pub is_unowed : Tale → Event → Bool
is_unowed tale event =
    is_move event && not (option_map_or (λ (order : Event). same_move order event) (order_owed tale) false)

-- how many balances and breaks behind a tale are not the order that is owed as they come
abbrev pub unowed_from : Tale → List JournalEntry → ℕ
unowed_from tale [] = 0
unowed_from tale (entry ∷ entries) =
    (if is_unowed tale entry.event then 1 else 0) + unowed_from (told_one tale entry) entries

-- How many balances and breaks of a journal are not the order that is owed at the journal before them.
abbrev pub unowed : List JournalEntry → ℕ
unowed journal = unowed_from first_tale journal

-- The events of a journal, with the acts of each settled hand, come of what was said: each act, called time and order
-- comes at most as often as it was asked for, by its player or by the floor; and the balances and breaks that are not
-- the order owed are at most as many as the floor asked for by name.
pub record WasAsked (journal : List JournalEntry) (said : List LineSaid) : Type 0 where
  pub wishes : ComeAtMostAsOften (filter_map wish_of (expand journal)) (filter_map wish_said said)
  pub moves : unowed journal ≤ count_by is_move_wished (filter_map wish_said said)
