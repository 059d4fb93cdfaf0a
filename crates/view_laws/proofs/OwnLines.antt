-- A player's lines without those of his own hole cards are the lines of nobody.
use Rattle.std.proofs.Common.{◌≡◌, ◌∙◌, refl, ap, ℕ, Bool, true, false, cond, List, [], ◌∷◌, ◌++◌, length, map}
use Rattle.std.specs.Prelude.{◌==◌, drop, filter, Option, Some, None, option_map, if◌then◌else◌}
use Rattle.std.specs.Option.{option_map_or}
use Rattle.std.proofs.lemmas.List.Elements.{filter-append}
use Rattle.card_set.specs.declared.card.Card.{Card}
use Rattle.table_engine.specs.declared.start.HandStart.{HandStart}
use Rattle.table_engine.specs.declared.start.StartSeat.{StartSeat}
use Rattle.table_engine.specs.declared.record.ActOf.{ActOf}
use Rattle.table_engine.specs.Hands.{HandTerms, ante_posted, player_of, posted}
use Rattle.table_engine.specs.Acts.{done_of_act, time_act}
use Rattle.tournament_events.specs.declared.event.Event.{Event}
use Rattle.tournament_events.specs.declared.event.Event.TheVariants as events
use Rattle.tournament_rules.specs.States.{State, first_state, answer_to, is_accepted, state_after}
use Rattle.view_rules.specs.Shown.{Viewer}
use Rattle.view_rules.specs.Seen.{SeenHand, SeenState, seen_hand, seen_by, seen_event, hand_in}
use Rattle.view_rules.specs.Spelling.{TableLine, HandLine, SeatLine, PostLine, AnteLine, ActLine, StreetLine, ShowLine, WinLine, ViewLine, Floor, Table}
use Rattle.view_rules.specs.Lines.{ante_lines, post_lines, hole_lines, following_lines, opening_lines, act_lines, act_lines_at, table_lines, serial_told, stacks_told, stack_after, floor_lines, lines_of_event}
use Rattle.view_rules.specs.Views.{told_of, told_from, lines_seen_by}
use Rattle.view_laws.specs.OwnLines.{is_for_all}

-- what is seen of a hand but for the own hole cards
abbrev for_all : SeenHand → SeenHand
for_all seen = record seen { own = [] }

-- what is seen of a state but for the own hole cards
abbrev state_for_all : SeenState → SeenState
state_for_all seen = record seen { hands = λ table. option_map for_all (seen.hands table) }

-- Nobody sees of a hand what a player sees but for his hole cards.
hand-nobody : (who : Viewer) (hand : HandTerms) → for_all (seen_hand who hand) ≡ seen_hand None hand
unfolding seen_hand
hand-nobody who hand = refl

-- Nobody sees so of a state.
state-nobody : (who : Viewer) (state : State) → state_for_all (seen_by who state) ≡ seen_by None state
state-nobody who state =
    let hands = λ (table : ℕ). by_hand (hand_in state table) in
    λ i. record (seen_by None state) { hands = λ table. hands table i }
  where
    by_hand : (hand : Option HandTerms)
        → option_map for_all (option_map (seen_hand who) hand) ≡ option_map (seen_hand None) hand
    by_hand None = refl
    by_hand (Some hand) = ap Some (hand-nobody who hand)

-- What a test keeps of two lists in a row.
kept-both : {A : Type 0} (test : A → Bool) (one one_kept other other_kept : List A) → filter test one ≡ one_kept
    → filter test other ≡ other_kept → filter test (one ++ other) ≡ one_kept ++ other_kept
kept-both test one one_kept other other_kept first second =
    filter-append test one other ∙ (λ i. first i ++ second i)

-- A list of which each item is made into one that passes is kept.
kept-made : {A B : Type 0} (test : B → Bool) (make : A → B) (items : List A)
    → ((item : A) → test (make item) ≡ true) → filter test (map make items) ≡ map make items
kept-made test make [] passes = refl
kept-made test make (item ∷ items) passes =
    let rest = kept-made test make items passes in
    λ i. cond (passes item i) (make item ∷ rest i) (rest i)

-- What is kept of what the items of a list are made into is made of those that pass when made.
made-kept : {A B : Type 0} (test : B → Bool) (make : A → B) (items : List A)
    → filter test (map make items) ≡ map make (filter (λ item. test (make item)) items)
made-kept test make [] = refl
made-kept test make (item ∷ items) = by_test (test (make item)) (made-kept test make items)
  where
    by_test : (passes : Bool) → filter test (map make items) ≡ map make (filter (λ item. test (make item)) items)
        → cond passes (make item ∷ filter test (map make items)) (filter test (map make items))
        ≡ map make (cond passes (item ∷ filter (λ item. test (make item)) items)
        (filter (λ item. test (make item)) items))
    by_test true rest = ap (◌∷◌ (make item)) rest
    by_test false rest = rest

-- whether a line of a table is for all
abbrev is_open : ℕ → TableLine → Bool
is_open table line = is_for_all (Table table line)

-- The line of an ante is for all.
ante-open : (table : ℕ) (start : HandStart) (player : StartSeat)
    → filter (is_open table) (ante_lines start player) ≡ ante_lines start player
ante-open table start player = by_ante (ante_posted start player == 0)
  where
    by_ante : (none : Bool)
        → filter (is_open table) (cond none [] (AnteLine player.name (ante_posted start player) ∷ []))
        ≡ cond none [] (AnteLine player.name (ante_posted start player) ∷ [])
    by_ante true = refl
    by_ante false = refl

-- The lines of what is posted are for all.
posts-open : (table : ℕ) (start : HandStart) (seat : ℕ)
    → filter (is_open table) (post_lines start seat) ≡ post_lines start seat
posts-open table start seat = by_slot (player_of start seat)
  where
    by_slot : (slot : Option StartSeat)
        → filter (is_open table)
        (option_map_or (λ player. PostLine player.name (posted start player) ∷ ante_lines start player) slot [])
        ≡ option_map_or (λ player. PostLine player.name (posted start player) ∷ ante_lines start player) slot []
    by_slot None = refl
    by_slot (Some player) = ap (◌∷◌ (PostLine player.name (posted start player))) (ante-open table start player)

-- The line of hole cards is not.
holes-own : (table : ℕ) (cards : List Card) → filter (is_open table) (hole_lines cards) ≡ []
holes-own table [] = refl
holes-own table (card ∷ cards) = refl

-- What follows an opening or an act is for all.
following-open : (table open_before : ℕ) (seen : SeenHand)
    → filter (is_open table) (following_lines open_before seen) ≡ following_lines open_before (for_all seen)
unfolding following_lines
following-open table open_before seen =
    let shows = map ShowLine seen.tabled in
    let streets = map StreetLine (drop open_before seen.streets) in
    let wins = map WinLine seen.won in
    kept-both (is_open table) shows shows (streets ++ wins) (streets ++ wins)
    (kept-made (is_open table) ShowLine seen.tabled (λ tabled. refl))
    (kept-both (is_open table) streets streets wins wins
    (kept-made (is_open table) StreetLine (drop open_before seen.streets) (λ street. refl))
    (kept-made (is_open table) WinLine seen.won (λ won. refl)))

-- The lines of an opening that are for all.
opening-open : (table : ℕ) (seen : SeenHand)
    → filter (is_open table) (opening_lines seen) ≡ opening_lines (for_all seen)
unfolding opening_lines
opening-open table seen =
    let start = seen.hand.start in
    let test = is_open table in
    let seats = map SeatLine start.seats in
    let small = post_lines start start.marks.small in
    let big = post_lines start start.marks.big in
    let follow = following_lines 0 (for_all seen) in
    let holes = kept-both test (hole_lines seen.own) [] (following_lines 0 seen) follow (holes-own table seen.own)
    (following-open table 0 seen) in
    let bigs = kept-both test big big (hole_lines seen.own ++ following_lines 0 seen) follow
    (posts-open table start start.marks.big) holes in
    let smalls = kept-both test small small (big ++ (hole_lines seen.own ++ following_lines 0 seen)) (big ++ follow)
    (posts-open table start start.marks.small) bigs in
    let all = kept-both test seats seats (small ++ (big ++ (hole_lines seen.own ++ following_lines 0 seen)))
    (small ++ (big ++ follow)) (kept-made test SeatLine start.seats (λ player. refl)) smalls in
    ap (◌∷◌ (HandLine start.serial start.marks)) all

-- The lines of an act are for all.
act-open : (table : ℕ) (before : SeenHand) (act : ActOf) (after : SeenHand)
    → filter (is_open table) (act_lines before act after) ≡ act_lines (for_all before) act (for_all after)
unfolding act_lines
act-open table before act after =
    ap (◌∷◌ (ActLine act.name (done_of_act before.hand act.name act.act)))
    (following-open table (length before.streets) after)

-- So are those of an act at a table.
acts-open : (table : ℕ) (act : HandTerms → ActOf) (before after : SeenState)
    → filter (is_open table) (act_lines_at table act before after)
    ≡ act_lines_at table act (state_for_all before) (state_for_all after)
acts-open table act before after = by_hands (before.hands table) (after.hands table)
  where
    by_hands : (earlier later : Option SeenHand)
        → filter (is_open table)
        (option_map_or (λ earlier. option_map_or (act_lines earlier (act earlier.hand)) later []) earlier [])
        ≡ option_map_or (λ earlier. option_map_or (act_lines earlier (act earlier.hand)) (option_map for_all later) [])
        (option_map for_all earlier) []
    by_hands None later = refl
    by_hands (Some earlier) None = refl
    by_hands (Some earlier) (Some later) = act-open table earlier (act earlier.hand) later

-- The lines of a table that are for all.
table-open : (before : SeenState) (event : Event) (after : SeenState)
    → filter is_for_all (table_lines before event after)
    ≡ table_lines (state_for_all before) event (state_for_all after)
table-open before (events.Begin table row) after =
    made-kept is_for_all (Table table) (option_map_or opening_lines (after.hands table) [])
    ∙ ap (map (Table table)) (by_hand (after.hands table))
  where
    by_hand : (hand : Option SeenHand)
        → filter (is_open table) (option_map_or opening_lines hand [])
        ≡ option_map_or opening_lines (option_map for_all hand) []
    by_hand None = refl
    by_hand (Some seen) = opening-open table seen
table-open before (events.Act table name act) after =
    made-kept is_for_all (Table table) (act_lines_at table (λ hand. record { name = name; act = act; by_time = false })
    before after)
    ∙ ap (map (Table table)) (acts-open table (λ hand. record { name = name; act = act; by_time = false }) before after)
table-open before (events.Time table) after =
    made-kept is_for_all (Table table) (act_lines_at table time_act before after)
    ∙ ap (map (Table table)) (acts-open table time_act before after)
table-open before _ after = refl

-- The number that is told of a begin is the same for all.
serial-open : (event : Event) (after : SeenState) → serial_told event after ≡ serial_told event (state_for_all after)
serial-open (events.Begin table row) after = by_hand (after.hands table)
  where
    by_hand : (hand : Option SeenHand)
        → option_map_or (λ seen. seen.hand.start.serial) hand 0
        ≡ option_map_or (λ seen. seen.hand.start.serial) (option_map for_all hand) 0
    by_hand None = refl
    by_hand (Some seen) = refl
serial-open _ after = refl

-- So are the stacks.
stacks-open : (before : SeenState) (event : Event) (after : SeenState)
    → stacks_told before event after ≡ stacks_told (state_for_all before) event (state_for_all after)
stacks-open before (events.Settle table) after = by_hand (before.hands table)
  where
    by_hand : (hand : Option SeenHand)
        → option_map_or (λ seen. map (stack_after table) seen.after) hand []
        ≡ option_map_or (λ seen. map (stack_after table) seen.after) (option_map for_all hand) []
    by_hand None = refl
    by_hand (Some seen) = refl
stacks-open before _ after = refl

-- The lines of an event that are for all.
event-open : (before : SeenState) (event : Event) (after : SeenState)
    → filter is_for_all (lines_of_event before event after)
    ≡ lines_of_event (state_for_all before) event (state_for_all after)
unfolding lines_of_event
event-open before event after =
    let floor = floor_lines event (serial_told event after) (stacks_told before event after) in
    let serial = serial-open event after in
    let stacks = stacks-open before event after in
    kept-both is_for_all (map Floor floor)
    (map Floor (floor_lines event (serial_told event (state_for_all after))
    (stacks_told (state_for_all before) event (state_for_all after))))
    (table_lines before event after) (table_lines (state_for_all before) event (state_for_all after))
    (kept-made is_for_all Floor floor (λ line. refl)
    ∙ (λ i. map Floor (floor_lines event (serial i) (stacks i))))
    (table-open before event after)

-- the lines of an event in a state, were it accepted
abbrev lines_at : Viewer → State → Event → List ViewLine
lines_at who state event =
    lines_of_event (seen_by who state) (seen_event event) (seen_by who (state_after state event))

-- Those that are for all are nobody's.
at-open : (who : Viewer) (state : State) (event : Event)
    → filter is_for_all (lines_at who state event) ≡ lines_at None state event
at-open who state event =
    event-open (seen_by who state) (seen_event event) (seen_by who (state_after state event))
    ∙ (λ i. lines_of_event (state-nobody who state i) (seen_event event)
    (state-nobody who (state_after state event) i))

-- So it is of a list of events.
lines-open : (who : Viewer) (events : List Event) (state : State)
    → filter is_for_all (told_from lines_of_event who state events) ≡ told_from lines_of_event None state events
lines-open who [] state = refl
lines-open who (event ∷ events) state =
    kept-both is_for_all (told_of lines_of_event who state event) (told_of lines_of_event None state event)
    (told_from lines_of_event who (state_after state event) events)
    (told_from lines_of_event None (state_after state event) events)
    (by_answer (is_accepted (answer_to state event)))
    (lines-open who events (state_after state event))
  where
    by_answer : (taken : Bool)
        → filter is_for_all (if taken then lines_at who state event else [])
        ≡ (if taken then lines_at None state event else [])
    by_answer true = at-open who state event
    by_answer false = refl

-- A player's lines that are for all are those of nobody.
pub seen-open : (who : Viewer) (events : List Event)
    → filter is_for_all (lines_seen_by who events) ≡ lines_seen_by None events
seen-open who events = lines-open who events first_state
