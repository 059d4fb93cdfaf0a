-- The cards that lines tell are shown.
use Rattle.std.proofs.Common.{◌≡◌, subst, ℕ, zero, suc, Bool, true, false, cond, List, [], ◌∷◌, ◌++◌, length, map}
use Rattle.std.specs.Prelude.{◌==◌, drop, filter, Option, Some, None, option_map, All, Contains, if◌then◌else◌}
use Rattle.std.specs.List.{flat_map, AllByRecursion}
use Rattle.std.specs.Option.{option_map_or}
use Rattle.std.proofs.lemmas.Bool.{eqb-true}
use Rattle.std.proofs.lemmas.List.Elements.{All-from_recursion, recursion_from_All, All-contains_itself}
use Rattle.card_set.specs.declared.card.Card.{Card}
use Rattle.table_engine.specs.declared.start.HandStart.{HandStart}
use Rattle.table_engine.specs.declared.start.StartSeat.{StartSeat}
use Rattle.table_engine.specs.declared.record.ActOf.{ActOf}
use Rattle.table_engine.specs.Deals.{card_at}
use Rattle.table_engine.specs.Hands.{HandTerms, ante_posted, player_of, posted}
use Rattle.table_engine.specs.Acts.{time_act}
use Rattle.tournament_events.specs.declared.event.Event.{Event}
use Rattle.tournament_events.specs.declared.event.Event.TheVariants as events
use Rattle.tournament_rules.specs.States.{State, answer_to, is_accepted, state_after}
use Rattle.view_rules.specs.declared.entries.StackLine.{StackLine}
use Rattle.view_rules.specs.Shown.{Viewer, own_places, open_streets, tabled_players, hole_places, street_places, places_shown}
use Rattle.view_rules.specs.Seen.{SeenHand, OpenStreet, Tabled, opened, tabled, seen_hand, seen_by, seen_event, hand_in}
use Rattle.view_rules.specs.Spelling.{TableLine, SeatLine, StreetLine, ShowLine, WinLine, PostLine, AnteLine, StackIs, ViewLine, Floor, Table}
use Rattle.view_rules.specs.Lines.{ante_lines, post_lines, hole_lines, following_lines, opening_lines, act_lines, act_lines_at, table_lines, serial_told, stacks_told, floor_lines, lines_of_event}
use Rattle.view_rules.specs.Views.{told_of}
use Rattle.view_laws.specs.CardsTold.{cards_of_line, may_tell_of, cards_told, cards_shown, cards_shown_at}
use Rattle.view_laws.proofs.Members.{first_part, second_part, both_parts, made_hold, hold_made, given_hold, all_given, hold_kept, always_hold, weaker}

-- Of a line of a table each card is so.
abbrev AreKnown : (Card → Type 0) → ℕ → TableLine → Type 0
AreKnown Known table line = AllByRecursion Known (cards_of_line (Table table line))

-- What is so of each card that is seen of a hand.
record IsKnown (Known : Card → Type 0) (seen : SeenHand) : Type 0 where
  own : AllByRecursion Known seen.own
  streets : AllByRecursion (λ open_. AllByRecursion Known open_.cards) seen.streets
  tabled : AllByRecursion (λ shown. AllByRecursion Known shown.cards) seen.tabled

-- What holds of each item holds of each that is left once some are dropped.
hold_dropped : {A : Type 0} (P : A → Type 0) (count : ℕ) (items : List A) → AllByRecursion P items
    → AllByRecursion P (drop count items)
hold_dropped P zero items all = all
hold_dropped P (suc count) [] all = tt
hold_dropped P (suc count) (item ∷ items) all = hold_dropped P count items all.1

-- It is so of each card that a line behind an opening or an act tells.
following-known : (Known : Card → Type 0) (table open_before : ℕ) (seen : SeenHand) → IsKnown Known seen
    → AllByRecursion (AreKnown Known table) (following_lines open_before seen)
unfolding following_lines
following-known Known table open_before seen known =
    let P = AreKnown Known table in
    both_parts P (map ShowLine seen.tabled)
    (map StreetLine (drop open_before seen.streets) ++ map WinLine seen.won)
    (hold_made P ShowLine seen.tabled known.tabled)
    (both_parts P (map StreetLine (drop open_before seen.streets)) (map WinLine seen.won)
    (hold_made P StreetLine (drop open_before seen.streets)
    (hold_dropped (λ (open_ : OpenStreet). AllByRecursion Known open_.cards) open_before seen.streets known.streets))
    (hold_made P WinLine seen.won (always_hold (λ won. P (WinLine won)) seen.won (λ won. tt))))

-- The line of an ante tells no card.
ante-known : (Known : Card → Type 0) (table : ℕ) (start : HandStart) (player : StartSeat)
    → AllByRecursion (AreKnown Known table) (ante_lines start player)
ante-known Known table start player = by_ante (ante_posted start player == 0)
  where
    by_ante : (none : Bool)
        → AllByRecursion (AreKnown Known table) (cond none [] (AnteLine player.name (ante_posted start player) ∷ []))
    by_ante true = tt
    by_ante false = (tt, tt)

-- The lines of what is posted tell no card.
posts-known : (Known : Card → Type 0) (table : ℕ) (start : HandStart) (seat : ℕ)
    → AllByRecursion (AreKnown Known table) (post_lines start seat)
posts-known Known table start seat = by_slot (player_of start seat)
  where
    by_slot : (slot : Option StartSeat)
        → AllByRecursion (AreKnown Known table)
        (option_map_or (λ player. PostLine player.name (posted start player) ∷ ante_lines start player) slot [])
    by_slot None = tt
    by_slot (Some player) = (tt, ante-known Known table start player)

-- The line of hole cards tells the own ones.
holes-known : (Known : Card → Type 0) (table : ℕ) (cards : List Card) → AllByRecursion Known cards
    → AllByRecursion (AreKnown Known table) (hole_lines cards)
holes-known Known table [] known = tt
holes-known Known table (card ∷ cards) known = (known, tt)

-- It is so of each card that a line of an opening tells.
opening-known : (Known : Card → Type 0) (table : ℕ) (seen : SeenHand) → IsKnown Known seen
    → AllByRecursion (AreKnown Known table) (opening_lines seen)
unfolding opening_lines
opening-known Known table seen known =
    let P = AreKnown Known table in
    let start = seen.hand.start in
    let small = post_lines start start.marks.small in
    let big = post_lines start start.marks.big in
    let holes = hole_lines seen.own in
    let follow = following_lines 0 seen in (
      tt,
      both_parts P (map SeatLine start.seats) (small ++ (big ++ (holes ++ follow)))
          (hold_made P SeatLine start.seats (always_hold (λ player. P (SeatLine player)) start.seats (λ player. tt)))
          (both_parts P small (big ++ (holes ++ follow)) (posts-known Known table start start.marks.small)
          (both_parts P big (holes ++ follow) (posts-known Known table start start.marks.big)
          (both_parts P holes follow (holes-known Known table seen.own known.own)
          (following-known Known table 0 seen known)))),
    )

-- It is so of each card that a line of an act tells.
act-known : (Known : Card → Type 0) (table : ℕ) (before : SeenHand) (act : ActOf) (after : SeenHand)
    → IsKnown Known after → AllByRecursion (AreKnown Known table) (act_lines before act after)
unfolding act_lines
act-known Known table before act after known = (tt, following-known Known table (length before.streets) after known)

-- Each card that is seen of a hand is shown.
shown-known : (who : Viewer) (hand : HandTerms) → IsKnown (Contains (cards_shown who hand)) (seen_hand who hand)
unfolding seen_hand
shown-known who hand =
    let start = hand.start in
    let Known = Contains (cards_shown who hand) in
    let At = λ (place : ℕ). Known (card_at start place) in
    let own = own_places who start in
    let board = flat_map (street_places start) (open_streets hand) in
    let holes = flat_map (λ (player : StartSeat). hole_places start player.seat) (tabled_players hand) in
    let all = made_hold Known (card_at start) (places_shown who hand)
    (recursion_from_All Known (cards_shown who hand) (All-contains_itself (cards_shown who hand))) in
    let front = first_part At (own ++ board) holes all in
    let streets = given_hold At (street_places start) (open_streets hand) (second_part At own board front) in
    let hands = given_hold At (λ (player : StartSeat). hole_places start player.seat) (tabled_players hand)
    (second_part At (own ++ board) holes all) in
    record {
      own = hold_made Known (card_at start) own (first_part At own board front);
      streets = hold_made (λ (open_ : OpenStreet). AllByRecursion Known open_.cards) (opened start)
          (open_streets hand)
          (weaker (λ street. AllByRecursion At (street_places start street))
          (λ street. AllByRecursion Known (opened start street).cards) (open_streets hand)
          (λ street each. hold_made Known (card_at start) (street_places start street) each) streets);
      tabled = hold_made (λ (shown : Tabled). AllByRecursion Known shown.cards) (tabled start) (tabled_players hand)
          (weaker (λ player. AllByRecursion At (hole_places start player.seat))
          (λ player. AllByRecursion Known (tabled start player).cards) (tabled_players hand)
          (λ player each. hold_made Known (card_at start) (hole_places start player.seat) each) hands);
    }

-- Of a line each card that it may tell of a table is so.
abbrev AreShown : (Card → Type 0) → ℕ → ViewLine → Type 0
AreShown Known table line = may_tell_of table line ≡ true → AllByRecursion Known (cards_of_line line)

-- The lines of stacks tell no card.
stacks-known : (Known : Card → Type 0) (table : ℕ) (stacks : List StackLine)
    → AllByRecursion (AreShown Known table) (map Floor (map StackIs stacks))
stacks-known Known table [] = tt
stacks-known Known table (stack ∷ stacks) = (λ tells. tt, stacks-known Known table stacks)

-- The lines of the floor tell no card.
floor-known : (Known : Card → Type 0) (table : ℕ) (event : Event) (serial : ℕ) (stacks : List StackLine)
    → AllByRecursion (AreShown Known table) (map Floor (floor_lines event serial stacks))
unfolding floor_lines
floor-known Known table (events.Begin at row) serial stacks = (λ tells. tt, tt)
floor-known Known table (events.Act at name act) serial stacks = tt
floor-known Known table (events.Time at) serial stacks = tt
floor-known Known table (events.Settle at) serial stacks = (λ tells. tt, stacks-known Known table stacks)
floor-known Known table (events.Race at row) serial stacks = (λ tells. tt, stacks-known Known table stacks)
floor-known Known table _ serial stacks = (λ tells. tt, tt)

-- What lines of a table tell is shown there where all that they tell is.
table-shown : (who : Viewer) (state : State) (at table : ℕ) (lines : List TableLine)
    → AllByRecursion (AreKnown (Contains (cards_shown_at who state at)) at) lines
    → AllByRecursion (AreShown (Contains (cards_shown_at who state table)) table) (map (Table at) lines)
table-shown who state at table lines all =
    hold_made (AreShown (Contains (cards_shown_at who state table)) table) (Table at) lines
    (weaker (AreKnown (Contains (cards_shown_at who state at)) at)
    (λ line. AreShown (Contains (cards_shown_at who state table)) table (Table at line)) lines
    (λ line known tells. subst (λ (number : ℕ). AllByRecursion (Contains (cards_shown_at who state number))
    (cards_of_line (Table at line))) (eqb-true at table tells) known) all)

-- What the lines of an act tell is shown of the hand after it.
acts-shown : (who : Viewer) (before after : State) (at table : ℕ) (act : HandTerms → ActOf)
    → AllByRecursion (AreShown (Contains (cards_shown_at who after table)) table)
    (map (Table at) (act_lines_at at act (seen_by who before) (seen_by who after)))
acts-shown who before after at table act =
    table-shown who after at table (act_lines_at at act (seen_by who before) (seen_by who after))
    (by_hands (hand_in before at) (hand_in after at))
  where
    by_hands : (earlier later : Option HandTerms)
        → AllByRecursion (AreKnown (Contains (option_map_or (cards_shown who) later [])) at)
        (option_map_or (λ seen. option_map_or (act_lines seen (act seen.hand)) (option_map (seen_hand who) later) [])
        (option_map (seen_hand who) earlier) [])
    by_hands None later = tt
    by_hands (Some earlier) None = tt
    by_hands (Some earlier) (Some later) =
        act-known (Contains (cards_shown who later)) at (seen_hand who earlier) (act (seen_hand who earlier).hand)
        (seen_hand who later) (shown-known who later)

-- What the lines of a table tell is shown of the hand there after the event.
tables-shown : (who : Viewer) (before : State) (event : Event) (after : State) (table : ℕ)
    → AllByRecursion (AreShown (Contains (cards_shown_at who after table)) table)
    (table_lines (seen_by who before) event (seen_by who after))
tables-shown who before (events.Begin at row) after table =
    table-shown who after at table (option_map_or opening_lines (option_map (seen_hand who) (hand_in after at)) [])
    (by_hand (hand_in after at))
  where
    by_hand : (hand : Option HandTerms)
        → AllByRecursion (AreKnown (Contains (option_map_or (cards_shown who) hand [])) at)
        (option_map_or opening_lines (option_map (seen_hand who) hand) [])
    by_hand None = tt
    by_hand (Some hand) =
        opening-known (Contains (cards_shown who hand)) at (seen_hand who hand) (shown-known who hand)
tables-shown who before (events.Act at name act) after table =
    acts-shown who before after at table (λ hand. record { name = name; act = act; by_time = false })
tables-shown who before (events.Time at) after table = acts-shown who before after at table time_act
tables-shown who before _ after table = tt

-- What the lines of an event tell is shown of the hand after it.
event-shown : (who : Viewer) (before : State) (event : Event) (after : State) (table : ℕ)
    → AllByRecursion (AreShown (Contains (cards_shown_at who after table)) table)
    (lines_of_event (seen_by who before) event (seen_by who after))
unfolding lines_of_event
event-shown who before event after table =
    let seen = seen_by who before in
    let now = seen_by who after in
    let P = AreShown (Contains (cards_shown_at who after table)) table in
    let floor = floor_lines event (serial_told event now) (stacks_told seen event now) in
    both_parts P (map Floor floor) (table_lines seen event now)
    (floor-known (Contains (cards_shown_at who after table)) table event (serial_told event now)
    (stacks_told seen event now))
    (tables-shown who before event after table)

-- Each card that the lines of an event tell of a table is shown of the hand there after it.
pub told-shown : (who : Viewer) (state : State) (event : Event) (table : ℕ)
    → All (Contains (cards_shown_at who (state_after state event) table))
    (cards_told table (told_of lines_of_event who state event))
told-shown who state event table =
    let Known = Contains (cards_shown_at who (state_after state event) table) in
    let lines = told_of lines_of_event who state event in
    let all = all_given Known cards_of_line (filter (may_tell_of table) lines)
    (hold_kept (λ line. AllByRecursion Known (cards_of_line line)) (may_tell_of table) lines
    (by_answer (is_accepted (answer_to state event)))) in
    All-from_recursion Known (cards_told table lines) all
  where
    by_answer : (taken : Bool)
        → AllByRecursion (AreShown (Contains (cards_shown_at who (state_after state event) table)) table)
        (if taken
        then lines_of_event (seen_by who state) (seen_event event) (seen_by who (state_after state event)) else [])
    by_answer true = event-shown who state (seen_event event) (state_after state event) table
    by_answer false = tt
