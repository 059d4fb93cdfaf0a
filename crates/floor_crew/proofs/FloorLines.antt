-- The floor's lines among all lines of one event.
use Rattle.std.proofs.Common.{◌≡◌, ◌∙◌, refl, sym, ap, ℕ, Bool, true, false, List, [], ◌∷◌, ◌++◌, append_assoc, append-nil, map}
use Rattle.std.specs.Prelude.{filter, if◌then◌else◌, Option, Some, None, option_map, option_and_then}
use Rattle.std.specs.Option.{option_map_or}
use Rattle.std.proofs.lemmas.List.Elements.{filter-append}
use Rattle.table_engine.specs.declared.start.HandStart.{HandStart}
use Rattle.table_engine.specs.declared.record.ActOf.{ActOf}
use Rattle.table_engine.specs.Hands.{HandTerms, is_over}
use Rattle.table_engine.specs.Acts.{time_act}
use Rattle.table_engine.specs.Results.{players_after}
use Rattle.seat_book.specs.Players.{players_at}
use Rattle.tournament_events.specs.declared.event.Event.{Event}
use Rattle.tournament_events.specs.declared.event.Event.TheVariants as events
use Rattle.tournament_rules.specs.Books.{start_at}
use Rattle.tournament_rules.specs.States.{State, PlayState, acts_at, answer_to, hand_at, is_accepted, players_of, run, state_after}
use Rattle.view_rules.specs.Lines.{act_lines_at, floor_lines, lines_of_event, opening_lines, serial_told, stack_after, stack_at_rest, stacks_told, table_lines}
use Rattle.view_rules.specs.Seen.{SeenHand, SeenState, seen_by, seen_event, seen_hand, undealt_play}
use Rattle.view_rules.specs.Shown.{Viewer}
use Rattle.view_rules.specs.Spelling.{FloorLine, TableLine, ViewLine, Floor, Table}
use Rattle.view_rules.specs.Views.{Teller, told_from, told_of}
use Rattle.dock_rules.specs.Journals.{act_event, acts_before}
use Rattle.floor_crew.specs.FloorPart.{is_floor_line}

-- All lines of the floor are kept.
floor-kept : (lines : List FloorLine) → filter is_floor_line (map Floor lines) ≡ map Floor lines
floor-kept [] = refl
floor-kept (line ∷ lines) = ap (λ (more : List ViewLine). Floor line ∷ more) (floor-kept lines)

-- No line of a table is.
table-dropped : (table : ℕ) (lines : List TableLine) → filter is_floor_line (map (Table table) lines) ≡ []
table-dropped table [] = refl
table-dropped table (line ∷ lines) = table-dropped table lines

tables-dropped : (before : SeenState) (event : Event) (after : SeenState)
    → filter is_floor_line (table_lines before event after) ≡ []
tables-dropped before (events.Begin table row) after =
    table-dropped table (option_map_or opening_lines (after.hands table) [])
tables-dropped before (events.Act table name act) after = table-dropped table
    (act_lines_at table (λ hand. record { name = name; act = act; by_time = false }) before after)
tables-dropped before (events.Time table) after =
    table-dropped table (act_lines_at table time_act before after)
tables-dropped before event after = refl

-- The floor's lines of an event, as they are told.
abbrev pub floor_of : SeenState → Event → SeenState → List ViewLine
floor_of before event after =
    map Floor (floor_lines event (serial_told event after) (stacks_told before event after))

-- They are the floor's among all that are told of it.
event-part : (before : SeenState) (event : Event) (after : SeenState)
    → filter is_floor_line (lines_of_event before event after) ≡ floor_of before event after
unfolding lines_of_event
event-part before event after =
    let lines : List FloorLine = floor_lines event (serial_told event after) (stacks_told before event after) in
    filter-append is_floor_line (map Floor lines) (table_lines before event after)
    ∙ ((λ i. floor-kept lines i ++ tables-dropped before event after i) ∙ append-nil (map Floor lines))

-- The floor's lines that nobody in particular is told of events from a state on.
abbrev pub floor_from : State → List Event → List ViewLine
floor_from state made = filter is_floor_line (told_from lines_of_event None state made)

-- What is told of events is told of the first of them, and then of the others.
told-append : {A : Type 0} (tell : Teller A) (who : Viewer) (state : State) (front back : List Event)
    → told_from tell who state (front ++ back)
    ≡ told_from tell who state front ++ told_from tell who (run state front) back
told-append tell who state [] back = refl
told-append {A} tell who state (event ∷ front) back =
    ap (λ (more : List A). told_of tell who state event ++ more)
    (told-append tell who (state_after state event) front back)
    ∙ sym (append_assoc (told_of tell who state event) (told_from tell who (state_after state event) front)
    (told_from tell who (run (state_after state event) front) back))

-- So it is of the floor's lines among them.
pub floor-append : (state : State) (front back : List Event)
    → floor_from state (front ++ back) ≡ floor_from state front ++ floor_from (run state front) back
floor-append state front back =
    ap (filter is_floor_line) (told-append lines_of_event None state front back)
    ∙ filter-append is_floor_line (told_from lines_of_event None state front)
    (told_from lines_of_event None (run state front) back)

-- Of an accepted event its own lines are told.
pub floor-one : (state : State) (event : Event) → is_accepted (answer_to state event) ≡ true
    → floor_from state (event ∷ [])
    ≡ floor_of (seen_by None state) (seen_event event) (seen_by None (state_after state event))
floor-one state event taken =
    let before : SeenState = seen_by None state in
    let after : SeenState = seen_by None (state_after state event) in
    let lines : List ViewLine = lines_of_event before (seen_event event) after in
    ap (filter is_floor_line) (append-nil (told_of lines_of_event None state event))
    ∙ (ap (λ (yes : Bool). filter is_floor_line (if yes then lines else [])) taken
    ∙ event-part before (seen_event event) after)

none_of : (taken : Bool) (lines : List ViewLine) → filter is_floor_line lines ≡ []
    → filter is_floor_line (if taken then lines else []) ≡ []
none_of true lines none = none
none_of false lines none = refl

-- The floor says nothing of an act or a called time.
silent : (state : State) (table : ℕ) (act : ActOf) (timed : Bool)
    → filter is_floor_line (told_of lines_of_event None state
    (if timed then events.Time table else events.Act table act.name act.act)) ≡ []
unfolding floor_lines
silent state table act true =
    let event : Event = events.Time table in
    none_of (is_accepted (answer_to state event)) _
    (event-part (seen_by None state) event (seen_by None (state_after state event)))
silent state table act false =
    let event : Event = events.Act table act.name act.act in
    none_of (is_accepted (answer_to state event)) _
    (event-part (seen_by None state) event (seen_by None (state_after state event)))

acts-silent : (state : State) (table : ℕ) (acts : List ActOf) → floor_from state (map (act_event table) acts) ≡ []
acts-silent state table [] = refl
acts-silent state table (act ∷ acts) =
    let next : State = state_after state (act_event table act) in
    filter-append is_floor_line (told_of lines_of_event None state (act_event table act))
    (told_from lines_of_event None next (map (act_event table) acts))
    ∙ (λ i. silent state table act act.by_time i ++ acts-silent next table acts i)

-- It says nothing of the acts before an event.
pub before-silent : (state : State) (event : Event) (acts : List ActOf) → floor_from state (acts_before event acts) ≡ []
before-silent state (events.Settle table) acts = acts-silent state table acts
before-silent state event acts = refl

-- What is seen of the hand that is out at a table of a tournament.
hand-seen : {B : Type 0} (read : SeenHand → B) (none : B) (state : State) (play : PlayState) (table : ℕ)
    (start : HandStart) → state.play ≡ Some play → start_at play.book.started table ≡ Some start
    → option_map_or read ((seen_by None state).hands table) none
    ≡ read (seen_hand None (record { start = start; acts = acts_at play.acts table }))
hand-seen read none state play table start is out =
    ap (λ (found : Option PlayState). option_map_or read
    (option_map (seen_hand None) (option_and_then (λ play. hand_at play table) found)) none) is
    ∙ ap (λ (found : Option HandStart). option_map_or read (option_map (seen_hand None)
    (option_map (λ start. record { start = start; acts = acts_at play.acts table }) found)) none) out

serial-seen : (hand : HandTerms) → (seen_hand None hand).hand.start.serial ≡ hand.start.serial
unfolding seen_hand
serial-seen hand = refl

after-seen : (hand : HandTerms) → is_over hand ≡ true → (seen_hand None hand).after ≡ players_after hand
unfolding seen_hand
after-seen hand over = ap (λ (ended : Bool). if ended then players_after hand else []) over

-- The number that is told of a begin is that of the hand that is out after it.
pub serial-out : (state : State) (play : PlayState) (table : ℕ) (start : HandStart) → state.play ≡ Some play
    → start_at play.book.started table ≡ Some start
    → option_map_or (λ (seen : SeenHand). seen.hand.start.serial) ((seen_by None state).hands table) 0 ≡ start.serial
serial-out state play table start is out =
    hand-seen (λ seen. seen.hand.start.serial) 0 state play table start is out
    ∙ serial-seen (record { start = start; acts = acts_at play.acts table })

-- The stacks that are told of a settle are those after the hand that is out before it, which is over.
pub stacks-out : (state : State) (play : PlayState) (table : ℕ) (start : HandStart) → state.play ≡ Some play
    → start_at play.book.started table ≡ Some start
    → is_over (record { start = start; acts = acts_at play.acts table }) ≡ true
    → option_map_or (λ (seen : SeenHand). map (stack_after table) seen.after) ((seen_by None state).hands table) []
    ≡ map (stack_after table) (players_after (record { start = start; acts = acts_at play.acts table }))
stacks-out state play table start is out over =
    hand-seen (λ seen. map (stack_after table) seen.after) [] state play table start is out
    ∙ ap (map (stack_after table)) (after-seen (record { start = start; acts = acts_at play.acts table }) over)

-- The stacks that are told of a race are those of the table's players after it.
pub stacks-raced : (state : State) (play : PlayState) (table : ℕ) → state.play ≡ Some play
    → map stack_at_rest (players_at (players_of (seen_by None state).state) table)
    ≡ map stack_at_rest (players_at play.book.seating.players table)
stacks-raced state play table is =
    ap (λ (found : Option PlayState). map stack_at_rest
    (players_at (option_map_or (λ play. play.book.seating.players) (option_map undealt_play found) []) table)) is
