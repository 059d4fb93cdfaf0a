-- The lines that tell a player, or nobody, of each event, made of what is seen before the event and after it. This
-- project's own.
use Rattle.std.specs.Prelude.{ℕ, ◌==◌, false, if◌then◌else◌, List, [], ◌∷◌, ◌++◌, length, map, drop}
use Rattle.std.specs.Option.{option_map_or}
use Rattle.seat_book.specs.declared.seated.Seated.{Seated}
use Rattle.seat_book.specs.Players.{players_at}
use Rattle.table_engine.specs.declared.start.HandStart.{HandStart}
use Rattle.table_engine.specs.declared.start.StartSeat.{StartSeat}
use Rattle.table_engine.specs.declared.record.ActOf.{ActOf}
use Rattle.table_engine.specs.Hands.{HandTerms, ante_posted, player_of, posted}
use Rattle.table_engine.specs.Acts.{done_of_act, time_act}
use Rattle.card_set.specs.declared.card.Card.{Card}
use Rattle.tournament_events.specs.declared.event.Event.{Event}
use Rattle.tournament_events.specs.declared.event.Event.TheVariants as events
use Rattle.tournament_rules.specs.States.{players_of}
use Rattle.view_rules.specs.declared.entries.StackLine.{StackLine}
use Rattle.view_rules.specs.Seen.{SeenHand, SeenState}
use Rattle.view_rules.specs.Spelling.{FloorLine, EventLine, BeginLine, SettleLine, RaceLine, StackIs, TableLine, HandLine, SeatLine, PostLine, AnteLine, HoleLine, ActLine, StreetLine, ShowLine, WinLine, ViewLine, Floor, Table}

-- What the floor tells of each event, with the number of the hand that it begins and the stacks that are told with it.
-- Acts and called times are told by their tables. Every other event is told as it was given.
unfoldable pub floor_lines : Event → ℕ → List StackLine → List FloorLine
floor_lines (events.Begin table row) serial stacks = BeginLine table serial ∷ []
floor_lines (events.Act table name act) serial stacks = []
floor_lines (events.Time table) serial stacks = []
floor_lines (events.Settle table) serial stacks = SettleLine table ∷ map StackIs stacks
floor_lines (events.Race table row) serial stacks = RaceLine table ∷ map StackIs stacks
floor_lines event serial stacks = EventLine event ∷ []

-- the line of the ante that a player posts, where he posts one
abbrev pub ante_lines : HandStart → StartSeat → List TableLine
ante_lines start player =
    let ante = ante_posted start player in if ante == 0 then [] else AnteLine player.name ante ∷ []

-- the lines of what is posted from a mark's seat, where a player is dealt in there: his blind, and his ante
abbrev pub post_lines : HandStart → ℕ → List TableLine
post_lines start seat =
    option_map_or (λ player. PostLine player.name (posted start player) ∷ ante_lines start player)
    (player_of start seat) []

-- the line of the hole cards of whoever is told, where he is dealt in
abbrev pub hole_lines : List Card → List TableLine
hole_lines [] = []
hole_lines (card ∷ cards) = HoleLine (card ∷ cards) ∷ []

-- What follows the opening of a hand or an act: the hands that are tabled, the streets that are open now and were not
-- before, and what each winner gets. So many streets were open before.
unfoldable pub following_lines : ℕ → SeenHand → List TableLine
following_lines open_before seen =
    map ShowLine seen.tabled ++ (map StreetLine (drop open_before seen.streets) ++ map WinLine seen.won)

-- The lines of a hand that begins: its number and its marks, its players, what is posted, the own hole cards, and what
-- follows.
unfoldable pub opening_lines : SeenHand → List TableLine
opening_lines seen =
    let start = seen.hand.start in
    HandLine start.serial start.marks ∷ map SeatLine start.seats
    ++ (post_lines start start.marks.small ++ (post_lines start start.marks.big
    ++ (hole_lines seen.own ++ following_lines 0 seen)))

-- The lines of an act: what it comes to, and what follows. To go all-in is told as the call, the bet or the raise that
-- it is, and a called time as the fold or the check.
unfoldable pub act_lines : SeenHand → ActOf → SeenHand → List TableLine
act_lines before act after =
    ActLine act.name (done_of_act before.hand act.name act.act) ∷ following_lines (length before.streets) after

-- the lines of an act of the hand that is played at a table
abbrev pub act_lines_at : ℕ → (HandTerms → ActOf) → SeenState → SeenState → List TableLine
act_lines_at table act before after =
    option_map_or (λ earlier. option_map_or (act_lines earlier (act earlier.hand)) (after.hands table) [])
    (before.hands table) []

-- What the tables tell of each event: a hand that begins, an act and a called time.
abbrev pub table_lines : SeenState → Event → SeenState → List ViewLine
table_lines before (events.Begin table row) after =
    map (Table table) (option_map_or opening_lines (after.hands table) [])
table_lines before (events.Act table name act) after =
    map (Table table)
    (act_lines_at table (λ hand. record { name = name; act = act; by_time = false }) before after)
table_lines before (events.Time table) after = map (Table table) (act_lines_at table time_act before after)
table_lines before event after = []

-- the number of the hand that an event begins, and 0 where it begins none
abbrev pub serial_told : Event → SeenState → ℕ
serial_told (events.Begin table row) after =
    option_map_or (λ seen. seen.hand.start.serial) (after.hands table) 0
serial_told event after = 0

-- a player of a hand, with his stack after it
abbrev pub stack_after : ℕ → StartSeat → StackLine
stack_after table player =
    record { place = record { table = table; seat = player.seat }; name = player.name; stack = player.stack }

-- a player who sits, with his stack at rest
abbrev pub stack_at_rest : Seated → StackLine
stack_at_rest player = record { place = player.place; name = player.name; stack = player.stack }

-- the stacks that are told with an event: after a settle those of the hand's players, and after a race those of the
-- table's, in rising seat
abbrev pub stacks_told : SeenState → Event → SeenState → List StackLine
stacks_told before (events.Settle table) after =
    option_map_or (λ seen. map (stack_after table) seen.after) (before.hands table) []
stacks_told before (events.Race table row) after =
    map stack_at_rest (players_at (players_of after.state) table)
stacks_told before event after = []

-- The lines of an event: those of the floor, and then those of its table.
unfoldable pub lines_of_event : SeenState → Event → SeenState → List ViewLine
lines_of_event before event after =
    map Floor (floor_lines event (serial_told event after) (stacks_told before event after))
    ++ table_lines before event after
