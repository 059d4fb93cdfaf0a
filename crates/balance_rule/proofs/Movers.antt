-- The player who moves: who is found in a place is found by his number, and sits there.
use Rattle.std.proofs.Common.{◌≡◌, ◌∙◌, refl, sym, ap, ℕ, ◌≤◌, Bool, true, false, ◌==◌, List, [], ◌∷◌, Option, Some}
use Rattle.std.specs.Prelude.{not, find, option_map}
use Rattle.std.specs.List.{list_all}
use Rattle.std.proofs.lemmas.Bool.{and_parts, eq-eqb, eqb-true, not-true}
use Rattle.rulebook.proofs.Tests.{eqb-swap, find-all, find-passes, some_there}
use Rattle.button_blinds.specs.SeatSets.{has_seat}
use Rattle.seat_book.specs.declared.place.Place.{Place}
use Rattle.seat_book.specs.declared.seated.Seated.{Seated}
use Rattle.seat_book.specs.Players.{sits_in, is_numbered, player_at, player_of, place_of, taken_seats, are_apart}
use Rattle.seat_book.specs.Seatings.{Seating, IsSeating}
use Rattle.seat_book.proofs.TakenPlaces.{has_seat-taken}
use Rattle.balance_rule.specs.EmptySeats.{worst_empty_seat}
use Rattle.balance_rule.specs.Balance.{next_big_seat, next_big_player, move_to, balance_move}

-- Who is found by a test is found by his number, where no two have one number.
pub found-numbered : (test : Seated → Bool) (players : List Seated) (seated : Seated) → are_apart players ≡ true
    → find test players ≡ Some seated → player_of players seated.player ≡ Some seated
found-numbered test [] seated apart is = absurd cc
found-numbered test (first ∷ players) seated apart is =
    let parts = and_parts (list_all (λ other. not (is_numbered first.player other)) players)
    (are_apart players) apart in
    by_test (test first) refl parts.0 (found-numbered test players seated parts.1)
  where
    by_test : (b : Bool) → test first ≡ b → list_all (λ other. not (is_numbered first.player other)) players ≡ true
        → (find test players ≡ Some seated → player_of players seated.player ≡ Some seated)
        → player_of (first ∷ players) seated.player ≡ Some seated
    by_test true passes others later =
        let here : Some first ≡ Some seated = rw passes at is in
        let same : first ≡ seated = cc in
        rw (← same, eq-eqb first.player first.player refl) refl
    by_test false passes others later =
        let found : find test players ≡ Some seated = rw passes at is in
        let apart_too = find-all test (λ other. not (is_numbered first.player other)) players seated found others in
        let differs : (first.player == seated.player) ≡ false = eqb-swap first.player seated.player
        ∙ not-true (seated.player == first.player) apart_too in
        rw differs (later found)

-- Who is found in a place sits there.
pub found-place : (players : List Seated) (place : Place) (seated : Seated) → player_at players place ≡ Some seated
    → seated.place ≡ place
found-place players place seated is =
    let parts = and_parts (seated.place.table == place.table) (seated.place.seat == place.seat)
    (find-passes (sits_in place) players seated is) in
    let table : seated.place.table ≡ place.table = eqb-true seated.place.table place.table parts.0 in
    let seat : seated.place.seat ≡ place.seat = eqb-true seated.place.seat place.seat parts.1 in
    λ i. record { table = table i; seat = seat i }

-- In a seat that is taken somebody sits.
pub taken-player : (players : List Seated) (table seat : ℕ) → 1 ≤ seat → seat ≤ 10
    → has_seat (taken_seats players table) seat ≡ true
    → (seated : Seated) × (player_at players (record { table = table; seat = seat }) ≡ Some seated)
taken-player players table seat first last taken = some_there
    (player_at players (record { table = table; seat = seat })) (sym (has_seat-taken table seat first last players)
    ∙ taken)

-- The move of a balance, by the seat of the next big blind and the worst empty seat.
pub carried-is : (seating : Seating) (from to big seat : ℕ) (seated : Seated) → big ≡ next_big_seat seating from
    → player_at seating.players (record { table = from; seat = big }) ≡ Some seated
    → worst_empty_seat seating to ≡ Some seat
    → balance_move seating from to ≡ Some (record {
      player = seated.player;
      from = record { table = from; seat = big };
      to = record { table = to; seat = seat };
    })
carried-is seating from to big seat seated is_big sits worst =
    let mover : next_big_player seating from ≡ Some seated = ap (λ (at : ℕ). player_at seating.players
    (record { table = from; seat = at })) (sym is_big) ∙ sits in
    let place = found-place seating.players (record { table = from; seat = big }) seated sits in
    ap (λ found. move_to to found (worst_empty_seat seating to)) mover
    ∙ (ap (λ found. move_to to (Some seated) found) worst
    ∙ ap (λ (from : Place). Some
    (record { player = seated.player; from = from; to = record { table = to; seat = seat } }))
    place)

-- The player who is found in a place has that place by his number.
pub sits-there : (seating : Seating) (place : Place) (seated : Seated) → IsSeating seating
    → player_at seating.players place ≡ Some seated → place_of seating.players seated.player ≡ Some place
sits-there seating place seated lawful sits =
    ap (option_map (λ seated. seated.place))
    (found-numbered (sits_in place) seating.players seated lawful.apart sits)
    ∙ ap Some (found-place seating.players place seated sits)

-- What is read of a place has the player's number.
pub read-number : {A B : Type 0} (name : Seated → A) (stack : Seated → B) (found : Option Seated)
    (read : Option (ℕ × A × B)) (out : ℕ × A × B) (seated : Seated)
    → read ≡ option_map (λ seated. (seated.player, name seated, stack seated)) found → read ≡ Some out
    → found ≡ Some seated → out.0 ≡ seated.player
read-number name stack found read out seated is some sits =
    let same : Some out ≡ Some (seated.player, name seated, stack seated) = sym some ∙ (is
    ∙ ap (option_map (λ seated. (seated.player, name seated, stack seated))) sits) in
    let one : out ≡ (seated.player, name seated, stack seated) = cc in
    ap (λ read. read.0) one
