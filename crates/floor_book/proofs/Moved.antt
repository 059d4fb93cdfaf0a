-- Players who leave their seats and take other places.
use Rattle.std.proofs.Common.{◌≡◌, ◌∙◌, refl, sym, ap, subst, ℕ, ◌<◌, ◌&&◌, Bool, true, List, ◌∷◌, arith}
use Rattle.std.specs.Prelude.{not, nat_le, find, option_map, Option, Some, None, IfSome}
use Rattle.std.specs.List.{list_all}
use Rattle.std.specs.Option.{option_map_or}
use Rattle.std.proofs.lemmas.Bool.{and_parts, ltb-true}
use Rattle.std.proofs.lemmas.Bool.Decides.{nat_tests}
use Rattle.std.proofs.lemmas.Option.{same_Some}
use Rattle.rulebook.specs.Pairs.{are_distinct}
use Rattle.rulebook.specs.Limits.{most_entries}
use Rattle.rulebook.proofs.Passing.{find-none, none-find}
use Rattle.rulebook.proofs.Tests.{find-all, list_all-filtered}
use Rattle.seat_book.specs.declared.place.Place.{Place}
use Rattle.seat_book.specs.declared.seated.Seated.{Seated}
use Rattle.seat_book.specs.Places.{IsPlaceOf, is_place_of}
use Rattle.seat_book.specs.Players.{sits_in, is_numbered, player_at, player_of, place_of, players_at, lifted}
use Rattle.seat_book.specs.Seatings.{Seating, IsSeating, is_entry, sits_within}
use Rattle.balance_rule.specs.declared.balance.Move.{Move}
use Rattle.balance_rule.specs.EmptySeats.{is_empty_seat}
use Rattle.balance_rule.specs.Balance.{next_big_seat, balance_move, after_move}
use Rattle.balance_rule.specs.Filling.{is_same_place}
use Rattle.balance_rule.proofs.Movers.{found-place}
use Rattle.tournament_rules.specs.Moving.{is_called, after_taking}
use Rattle.tournament_rules.proofs.Breaks.{named-found, taking, still_free}
use Rattle.tournament_rules.proofs.Balances.{mover}
use Rattle.tournament_rules.proofs.Moved.{moved, all-moved}
use Rattle.floor_book.specs.Moves.{AreFree}
use Rattle.tournament_rules.proofs.Stayed.{all_stay}

-- A place where nobody sits stays empty where somebody leaves.
pub empty-lifted : (players : List Seated) (number : ℕ) (place : Place) → player_at players place ≡ None
    → player_at (lifted number players) place ≡ None
empty-lifted players number place empty =
    find-none (sits_in place) (lifted number players)
    (all_stay (λ other. not (sits_in place other)) (is_numbered number) players
    (none-find (sits_in place) players empty))

-- Who left sits nowhere.
pub stands-lifted : (players : List Seated) (number : ℕ) → place_of (lifted number players) number ≡ None
stands-lifted players number =
    ap (option_map (λ (seated : Seated). seated.place))
    (find-none (is_numbered number) (lifted number players)
    (list_all-filtered (λ other. not (is_numbered number other)) players))

-- Who is found by a name at a table is found by his number.
pub called-sits : (seating : Seating) (table : ℕ) (name : List ℕ) (found : Option Seated) → IsSeating seating
    → found ≡ find (is_called name) (players_at seating.players table)
    → IfSome found (λ player. player_of seating.players player.player ≡ Some player)
called-sits seating table name None lawful is = tt
called-sits seating table name (Some player) lawful is =
    named-found seating.players table name player lawful.apart (sym is)

-- Whoever is found by a name at a table has the number of an entry.
pub called-entry : (seating : Seating) (table : ℕ) (name : List ℕ) (found : Option Seated) → IsSeating seating
    → found ≡ find (is_called name) (players_at seating.players table)
    → IfSome found (λ player. player.player < most_entries)
called-entry seating table name None lawful is = tt
called-entry seating table name (Some player) lawful is =
    ltb-true player.player most_entries (find-all (is_numbered player.player) is_entry seating.players player
    (named-found seating.players table name player lawful.apart (sym is)) lawful.entries)

-- Once the player of a name took the first of free places, the others are free.
pub free-rest : (seating : Seating) (table : ℕ) (name : List ℕ) (place : Place) (places : List Place)
    → IsSeating seating → AreFree seating (place ∷ places) → AreFree (after_taking table name place seating) places
free-rest seating table name place places lawful free =
    by_find (find (is_called name) (players_at seating.players table)) refl
  where
    empty_there : Place → Bool
    empty_there other = is_empty_seat seating.players other.table other.seat

    within : list_all (is_place_of seating.table_count seating.seat_count) places ≡ true
    within = (and_parts (is_place_of seating.table_count seating.seat_count place)
        (list_all (is_place_of seating.table_count seating.seat_count) places) free.within).1

    empty : list_all (λ other. is_empty_seat seating.players other.table other.seat) places ≡ true
    empty = (and_parts (is_empty_seat seating.players place.table place.seat)
        (list_all (λ other. is_empty_seat seating.players other.table other.seat) places) free.empty).1

    apart : (list_all (λ other. not (is_same_place place other)) places ≡ true)
        × (are_distinct is_same_place places ≡ true)
    apart = and_parts (list_all (λ other. not (is_same_place place other)) places) (are_distinct is_same_place places)
        free.apart

    by_player : (player : Seated) → find (is_called name) (players_at seating.players table) ≡ Some player
        → AreFree (record seating { players = moved place player seating.players }) places
    by_player player is =
        let players = seating.players in
        let number = named-found players table name player lawful.apart is in
        record {
          within = within;
          empty = still_free players (moved place player players) place places (λ other differ none.
              find-none (sits_in other) (moved place player players)
              (all-moved place player players lawful.apart number (λ seated. not (sits_in other seated))
              (none-find (sits_in other) players none) (ap not differ))) empty apart.0;
          apart = apart.1;
        }

    by_find : (found : Option Seated) → find (is_called name) (players_at seating.players table) ≡ found
        → AreFree (after_taking table name place seating) places
    by_find None is =
        let same : after_taking table name place seating ≡ seating = rw is refl in
        subst (λ (after : Seating). AreFree after places) (sym same)
        (record { within = within; empty = empty; apart = apart.1 })
    by_find (Some player) is =
        subst (λ (after : Seating). AreFree after places)
        (sym (taking seating table name place player lawful.apart is)) (by_player player is)

-- The tables are as many, once the player of a name took a place.
pub taking-tables : (seating : Seating) (table : ℕ) (name : List ℕ) (place : Place)
    → (after_taking table name place seating).table_count ≡ seating.table_count
taking-tables seating table name place = by_find (find (is_called name) (players_at seating.players table))
  where
    by_find : (found : Option Seated) → (option_map_or (λ move_. after_move move_ seating)
        (option_map (λ player. record { player = player.player; from = player.place; to = place }) found)
        seating).table_count ≡ seating.table_count
    by_find None = refl
    by_find (Some player) = refl

-- Who moves by a balance sits where his move begins.
pub mover-sits : (seating : Seating) (from to : ℕ) (move_ : Move) → balance_move seating from to ≡ Some move_
    → option_map (λ seated. seated.player) (player_at seating.players move_.from) ≡ Some move_.player
mover-sits seating from to move_ is =
    let who = mover seating from to move_ is in
    let big : Place = record { table = from; seat = next_big_seat seating from } in
    let there : big ≡ move_.from = sym (found-place seating.players big who.seated who.sits)
    ∙ ap (λ (move_ : Move). move_.from) who.is in
    let number : who.seated.player ≡ move_.player = ap (λ (move_ : Move). move_.player) who.is in
    let sits : player_at seating.players move_.from ≡ Some who.seated =
    subst (λ (place : Place). player_at seating.players place ≡ Some who.seated) there who.sits in
    ap (option_map (λ (seated : Seated). seated.player)) sits ∙ ap Some number

-- Whoever sits in a place, the tables have it.
pub sits-within : (seating : Seating) (number : ℕ) (place : Place) → IsSeating seating
    → place_of seating.players number ≡ Some place → IsPlaceOf seating.table_count seating.seat_count place
sits-within seating number place lawful is = by_player (player_of seating.players number) refl is
  where
    place_within : (tables seats table seat : ℕ)
        → is_place_of tables seats (record { table = table; seat = seat }) ≡ true
        → IsPlaceOf tables seats (record { table = table; seat = seat })
    place_within tables seats table seat within =
        let parts = and_parts (nat_le 1 table && nat_le table tables) (nat_le 1 seat && nat_le seat seats) within in
        let at = and_parts (nat_le 1 table) (nat_le table tables) parts.0 in
        let on = and_parts (nat_le 1 seat) (nat_le seat seats) parts.1 in
        record {
          table = record { first = grind (arith, nat_tests); last = grind (arith, nat_tests) };
          first = grind (arith, nat_tests);
          last = grind (arith, nat_tests);
        }

    by_player : (found : Option Seated) → player_of seating.players number ≡ found
        → option_map (λ seated. seated.place) found ≡ Some place
        → IsPlaceOf seating.table_count seating.seat_count place
    by_player None sits is = absurd cc
    by_player (Some player) sits is =
        let same : player.place ≡ place = same_Some player.place place is in
        let within = find-all (is_numbered number) (sits_within seating.table_count seating.seat_count)
        seating.players player sits lawful.within in
        subst (IsPlaceOf seating.table_count seating.seat_count) same
        (place_within seating.table_count seating.seat_count player.place.table player.place.seat within)

-- Who is read in a place is found there.
pub read-found : (players : List Seated) (place : Place) (player : ℕ) (name : List ℕ) (stack : ℕ)
    → option_map {T = Seated} {U = ℕ × List ℕ × ℕ} (λ seated. (seated.player, seated.name, seated.stack))
    (player_at players place)
    ≡ Some (player, name, stack) → player_at players place
    ≡ Some (record { place = place; player = player; name = name; stack = stack })
read-found players place player name stack is = by_seated (player_at players place) refl is
  where
    by_seated : (found : Option Seated) → player_at players place ≡ found
        → option_map {T = Seated} {U = ℕ × List ℕ × ℕ} (λ seated. (seated.player, seated.name, seated.stack)) found
        ≡ Some (player, name, stack)
        → found ≡ Some (record { place = place; player = player; name = name; stack = stack })
    by_seated None sits is = absurd cc
    by_seated (Some seated) sits is =
        let there = found-place players place seated sits in
        let read = same_Some (seated.player, seated.name, seated.stack) (player, name, stack) is in
        ap Some (λ i. record {
          place = there i;
          player = (read i).0;
          name = (read i).1;
          stack = (read i).2;
        })
