-- Whose the places are that a hand shows: those of whoever is told, of the board, and of live players.
use Rattle.std.proofs.Common.{◌≡◌, refl, sym, ap, ℕ, Bool, true, false, cond, List, [], ◌∷◌, ◌++◌}
use Rattle.std.specs.Prelude.{nat_lt, not, filter, find, Option, Some, None, option_map, Contains}
use Rattle.std.specs.List.{flat_map, AllByRecursion}
use Rattle.std.specs.Option.{option_map_or}
use Rattle.std.specs.Str.{bytes_eq}
use Rattle.std.proofs.lemmas.Slice.Eq.{bytes_eq-Decides}
use Rattle.std.proofs.lemmas.List.Elements.{All-from_recursion, All-contains}
use Rattle.rulebook.proofs.Tests.{find-passes}
use Rattle.table_engine.specs.declared.start.HandStart.{HandStart}
use Rattle.table_engine.specs.declared.start.StartSeat.{StartSeat}
use Rattle.table_engine.specs.Hands.{HandTerms, is_live, player_of}
use Rattle.table_engine.specs.Starts.{IsLawfulStart}
use Rattle.table_engine.proofs.BySeat.{AreFound, found-all}
use Rattle.view_rules.specs.Shown.{Viewer, is_shown_down, open_streets, players_clockwise, tabled_players, own_places, hole_places, street_places, places_shown}
use Rattle.view_laws.proofs.Members.{both_parts, all_given, always_hold, weaker, hold_filter, hold_kept, found_holds}
use Rattle.view_laws.proofs.PlacesApart.{IsHoleOf, IsOfBoard, holes-his, street-board}

-- A player is found at his seat.
abbrev pub IsFoundAt : HandStart → StartSeat → Type 0
IsFoundAt start player = player_of start player.seat ≡ Some player

-- So is each player of a lawful start.
pub each-found : (start : HandStart) → IsLawfulStart start → AllByRecursion (IsFoundAt start) start.seats
each-found start lawful = by_list start.seats (found-all start lawful)
  where
    by_list : (players : List StartSeat) → AreFound start.seats players → AllByRecursion (IsFoundAt start) players
    by_list [] found = tt
    by_list (player ∷ players) found = (found.0, by_list players found.1)

-- A player whose hole card has a place.
pub record IsHis (start : HandStart) (player : StartSeat) (place : ℕ) : Type 0 where
  pub found : IsFoundAt start player
  pub hole : IsHoleOf start player.seat place

-- Whose a place is.
pub data Origin (who : Viewer) (hand : HandTerms) (place : ℕ) : Type 0 where
  -- that of whoever is told
  Own : (player : StartSeat) → who ≡ Some player.name → IsHis hand.start player place → Origin who hand place
  -- the board
  Board : IsOfBoard hand.start place → Origin who hand place
  -- a live player
  Live : (player : StartSeat) → is_live hand player ≡ true → IsHis hand.start player place → Origin who hand place

-- The places of the own hole cards.
own-origin : (who : Viewer) (hand : HandTerms) → IsLawfulStart hand.start
    → AllByRecursion (Origin who hand) (own_places who hand.start)
own-origin None hand lawful = tt
own-origin (Some name) hand lawful =
    by_slot (find (λ (player : StartSeat). bytes_eq player.name name) hand.start.seats) refl
  where
    by_slot : (slot : Option StartSeat)
        → find (λ (player : StartSeat). bytes_eq player.name name) hand.start.seats ≡ slot
        → AllByRecursion (Origin (Some name) hand)
        (option_map_or (hole_places hand.start) (option_map (λ (player : StartSeat). player.seat) slot) [])
    by_slot None is = tt
    by_slot (Some own) is =
        let found = found_holds (IsFoundAt hand.start) (λ (player : StartSeat). bytes_eq player.name name)
        hand.start.seats own is (each-found hand.start lawful) in
        let named = find-passes (λ (player : StartSeat). bytes_eq player.name name) hand.start.seats own is in
        let same : own.name ≡ name = (bytes_eq-Decides own.name name).0 named in
        weaker (IsHoleOf hand.start own.seat) (Origin (Some name) hand) (hole_places hand.start own.seat)
        (λ place hole. Own own (sym (ap Some same)) (record { found = found; hole = hole }))
        (holes-his hand.start own.seat)

-- The places of the board.
board-origin : (who : Viewer) (hand : HandTerms)
    → AllByRecursion (Origin who hand) (flat_map (street_places hand.start) (open_streets hand))
board-origin who hand =
    all_given (Origin who hand) (street_places hand.start) (open_streets hand)
    (always_hold (λ street. AllByRecursion (Origin who hand) (street_places hand.start street)) (open_streets hand)
    (λ street. weaker (IsOfBoard hand.start) (Origin who hand) (street_places hand.start street)
    (λ place board. Board board) (street-board hand.start street)))

-- The places of the hands that are tabled.
tabled-origin : (who : Viewer) (hand : HandTerms) → IsLawfulStart hand.start
    → AllByRecursion (Origin who hand)
    (flat_map (λ (player : StartSeat). hole_places hand.start player.seat) (tabled_players hand))
unfolding tabled_players
tabled-origin who hand lawful =
    all_given (Origin who hand) (λ (player : StartSeat). hole_places hand.start player.seat)
    (tabled_players hand) (by_down (is_shown_down hand))
  where
    Shows : StartSeat → Type 0
    Shows player = AllByRecursion (Origin who hand) (hole_places hand.start player.seat)

    IfLive : StartSeat → Type 0
    IfLive player = is_live hand player ≡ true → Shows player

    each : AllByRecursion IfLive hand.start.seats
    each = weaker (IsFoundAt hand.start) IfLive hand.start.seats
        (λ player found live. weaker (IsHoleOf hand.start player.seat) (Origin who hand)
        (hole_places hand.start player.seat)
        (λ place hole. Live player live (record { found = found; hole = hole })) (holes-his hand.start player.seat))
        (each-found hand.start lawful)

    clockwise : AllByRecursion IfLive (players_clockwise hand.start)
    clockwise =
        let above = λ (player : StartSeat). nat_lt hand.start.marks.button player.seat in
        let others = λ (player : StartSeat). not (above player) in
        both_parts IfLive (filter above hand.start.seats) (filter others hand.start.seats)
        (hold_filter IfLive above hand.start.seats each) (hold_filter IfLive others hand.start.seats each)

    by_down : (down : Bool) → AllByRecursion Shows (cond down (filter (is_live hand) (players_clockwise hand.start)) [])
    by_down true = hold_kept Shows (is_live hand) (players_clockwise hand.start) clockwise
    by_down false = tt

-- Whose each place is that a hand shows.
pub shown-origin : (who : Viewer) (hand : HandTerms) (place : ℕ) → IsLawfulStart hand.start
    → Contains (places_shown who hand) place → Origin who hand place
shown-origin who hand place lawful shown =
    let P = Origin who hand in
    let own = own_places who hand.start in
    let board = flat_map (street_places hand.start) (open_streets hand) in
    let holes = flat_map (λ (player : StartSeat). hole_places hand.start player.seat) (tabled_players hand) in
    let all = both_parts P (own ++ board) holes
    (both_parts P own board (own-origin who hand lawful) (board-origin who hand)) (tabled-origin who hand lawful) in
    All-contains P (places_shown who hand) place (All-from_recursion P (places_shown who hand) all) shown
