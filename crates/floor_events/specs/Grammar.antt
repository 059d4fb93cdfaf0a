-- The grammar: a line is a note or holds an event. An event has a row, which says how its line is read, and its line,
-- which says what of the event stands in the row's fields. The spelling of an event and what is lawful of it follow
-- from the two. This project's own.
use Rattle.std.specs.Prelude.{ℕ, nat_le, ◌==◌, Bool, false, List, [], ◌∷◌, ◌++◌, length, codes, Option, Some, None, option_map, if◌then◌else◌}
use Rattle.floor_text.specs.Limits.{longest_line}
use Rattle.level_plan.specs.Limits.{most_shares}
use Rattle.level_plan.specs.declared.line.PlanLine.TheVariants as lines
use Rattle.line_words.specs.Words.{words_of_line}
use Rattle.line_words.specs.Rows.{a_number, a_name, a_row, a_game, a_switch, some_places, some_names, no_field, last, ◌▸◌, an_act, if_any, few, Row, row, read_words, Line, line}
use Rattle.tournament_events.specs.declared.event.Event.{Event}
use Rattle.tournament_events.specs.declared.event.Event.TheVariants as events
use Rattle.tournament_events.specs.declared.event.Item.{Item}
use Rattle.tournament_events.specs.declared.event.Item.TheVariants as found

-- the rows of the events that hold a list, for which memory is wanted
abbrev pub list_rows : List (Row Event)
list_rows =
    row (codes "shares") (few most_shares a_number) (λ shares. events.Plan (lines.Shares shares)) ∷
    row (codes "break") (a_number ▸ some_places ▸ last some_names) events.Break ∷ []

-- the rows of the other lines of a plan
abbrev pub plan_rows : List (Row Event)
plan_rows =
    row (codes "game") (last a_game) (λ game. events.Plan (lines.Game game)) ∷
    row (codes "tables") (last a_number) (λ n. events.Plan (lines.Tables n)) ∷
    row (codes "seats") (last a_number) (λ n. events.Plan (lines.Seats n)) ∷
    row (codes "stack") (last a_number) (λ n. events.Plan (lines.Stack n)) ∷
    row (codes "buyin") (last a_number) (λ n. events.Plan (lines.Buyin n)) ∷
    row (codes "late") (last a_number) (λ n. events.Plan (lines.Late n)) ∷
    row (codes "blinds") (a_number ▸ a_number ▸ a_number ▸ if_any)
    (λ small big unit ante. events.Plan
    (lines.Blinds (record { small = small; big = big; unit = unit; ante = ante }))) ∷
    row (codes "limit") (last a_number) (λ n. events.Plan (lines.Limit n)) ∷
    row (codes "go") no_field events.Go ∷ []

-- the rows of all other events
abbrev pub play_rows : List (Row Event)
play_rows =
    row (codes "act") (a_number ▸ a_name ▸ an_act) events.Act ∷
    row (codes "begin") (a_number ▸ last a_row) events.Begin ∷
    row (codes "settle") (last a_number) events.Settle ∷
    row (codes "enter") (a_name ▸ a_number ▸ last a_number) events.Enter ∷
    row (codes "reenter") (a_name ▸ a_number ▸ last a_number) events.Reenter ∷
    row (codes "time") (last a_number) events.Time ∷
    row (codes "balance") (a_number ▸ last a_number) events.Balance ∷
    row (codes "level") no_field events.Level ∷
    row (codes "race") (a_number ▸ last a_row) events.Race ∷
    row (codes "hands") (last a_switch) events.Hands ∷
    row (codes "round") no_field events.Round ∷
    row (codes "stop") no_field events.Stop ∷ []

-- the rows of all events without a list
abbrev pub plain_rows : List (Row Event)
plain_rows = play_rows ++ plan_rows

-- the grammar: the rows of all events
abbrev pub grammar : List (Row Event)
grammar = list_rows ++ plain_rows

-- the line of each event: its first word, and what stands in the fields of that word's row
abbrev pub line_of : (event : Event) → Line grammar event
line_of (events.Plan (lines.Game game)) = line grammar (codes "game") game
line_of (events.Plan (lines.Tables n)) = line grammar (codes "tables") n
line_of (events.Plan (lines.Seats n)) = line grammar (codes "seats") n
line_of (events.Plan (lines.Stack n)) = line grammar (codes "stack") n
line_of (events.Plan (lines.Buyin n)) = line grammar (codes "buyin") n
line_of (events.Plan (lines.Late n)) = line grammar (codes "late") n
line_of (events.Plan (lines.Blinds blind)) =
    line grammar (codes "blinds") (blind.small, (blind.big, (blind.unit, blind.ante)))
line_of (events.Plan (lines.Shares shares)) = line grammar (codes "shares") shares
line_of (events.Plan (lines.Limit n)) = line grammar (codes "limit") n
line_of events.Go = line grammar (codes "go") tt
line_of (events.Enter name table seat) = line grammar (codes "enter") (name, (table, seat))
line_of (events.Reenter name table seat) = line grammar (codes "reenter") (name, (table, seat))
line_of (events.Begin table cards) = line grammar (codes "begin") (table, cards)
line_of (events.Act table name act) = line grammar (codes "act") (table, (name, act))
line_of (events.Time table) = line grammar (codes "time") table
line_of (events.Settle table) = line grammar (codes "settle") table
line_of (events.Balance from to) = line grammar (codes "balance") (from, to)
line_of (events.Break table seats names) = line grammar (codes "break") (table, (seats, names))
line_of events.Level = line grammar (codes "level") tt
line_of (events.Race table cards) = line grammar (codes "race") (table, cards)
line_of (events.Hands on) = line grammar (codes "hands") on
line_of events.Round = line grammar (codes "round") tt
line_of events.Stop = line grammar (codes "stop") tt

-- the item of a line's words
unfoldable pub item_of_words : List (List ℕ) → Option Item
item_of_words words = option_map found.Event (read_words grammar words)

-- whether a line is a note: its first byte is `*`, whatever stands behind it
abbrev pub is_note : List ℕ → Bool
is_note [] = false
is_note (byte ∷ bytes) = byte == 42

-- the item of a line of at most 400 bytes: a note, or the event of its words; None where the line is not in the grammar
unfoldable pub item_of_bytes : List ℕ → Option Item
item_of_bytes line =
    if nat_le (length line) longest_line then
    (if is_note line then Some found.Note else item_of_words (words_of_line line)) else None
