-- Stacks of a table for a race, and players who have theirs after it, seat by seat.
use Rattle.std.proofs.Common.{◌≡◌, ◌∙◌, refl, sym, ap, ◌<◌, ℕ, ◌+◌, ◌-◌, Bool, true, false, cond, ◌==◌, ◌&&◌, List, [], ◌∷◌, map, get_or, arith}
use Rattle.std.specs.Prelude.{not, nat_le, None}
use Rattle.std.specs.List.{list_all}
use Rattle.std.proofs.lemmas.Bool.{and_parts, not-true}
use Rattle.std.proofs.lemmas.Bool.Decides.{nat_tests}
use Rattle.rulebook.specs.Checks.{first_that_holds}
use Rattle.rulebook.proofs.Passing.{find-none, map-fixed, none-find}
use Rattle.rulebook.proofs.Tests.{list_all-follows, some_there}
use Rattle.card_set.specs.declared.card.Card.{Card}
use Rattle.card_set.specs.declared.card.CardRow.{CardRow}
use Rattle.chip_race.specs.declared.race_result.RaceResult.{RaceResult}
use Rattle.card_set.specs.Decks.{IsDeck}
use Rattle.seat_book.specs.declared.place.Place.{Place}
use Rattle.seat_book.specs.declared.seated.Seated.{Seated}
use Rattle.seat_book.specs.declared.table_status.TableStatus.{TableStatus}
use Rattle.seat_book.specs.Tables.{status_at}
use Rattle.seat_book.specs.Players.{sits_at, sits_in, player_at, with_stack}
use Rattle.seat_book.specs.Seatings.{Seating, IsSeating, sits_within}
use Rattle.tournament_events.specs.declared.event.Event.TheVariants.{Race}
use Rattle.tournament_rules.specs.Books.{BookState}
use Rattle.tournament_rules.specs.Checks.{is_table_open, is_playing, is_race_due, race_checks, book_refusal}
use Rattle.tournament_rules.specs.Effects.{with_table, raced}
use Rattle.tournament_rules.specs.Players.{with_rest}
use Rattle.tournament_rules.specs.Racing.{stacks_at, unit_after, race_at, restacked, raced_off}
use Rattle.tournament_rules.specs.Valid.{IsValid}
use Rattle.tournament_rules.proofs.DealtBelow.{seat_within}
use Rattle.tournament_rules.proofs.Races.{CanRace, can_race}

-- Nobody sits in a seat that the tables do not have.
pub nobody-beyond : (tables seats : ℕ) (players : List Seated) (table seat : ℕ) → seats < seat
    → list_all (sits_within tables seats) players ≡ true
    → player_at players (record { table = table; seat = seat }) ≡ None
nobody-beyond tables seats players table seat beyond within =
    let place : Place = record { table = table; seat = seat } in
    find-none (sits_in place) players
    (list_all-follows (sits_within tables seats) (λ player. not (sits_in place player)) players
    (λ player there. ap not (elsewhere player.place.table player.place.seat there)) within)
  where
    elsewhere : (at of : ℕ) → ((nat_le 1 at && nat_le at tables) && (nat_le 1 of && nat_le of seats)) ≡ true
        → (at == table && of == seat) ≡ false
    elsewhere at of there = grind (arith, nat_tests)

-- Where nobody sits nobody's stack changes.
pub with_stack-nobody : (players : List Seated) (place : Place) (stack : ℕ) → player_at players place ≡ None
    → with_stack place stack players ≡ players
with_stack-nobody players place stack nobody =
    map-fixed (λ (player : Seated). not (sits_in place player))
    (λ player. cond (sits_in place player) (with_rest player stack) player) players
    (λ player away. ap (λ (b : Bool). cond b (with_rest player stack) player)
    (not-true (sits_in place player) away))
    (none-find (sits_in place) players nobody)

-- a player once those of a table who sit in its first so many seats have their stacks after its race
abbrev pub restacked_to : ℕ → ℕ → List ℕ → Seated → Seated
restacked_to below table stacks player =
    cond (sits_at table player && nat_le player.place.seat below)
    (with_rest player (get_or stacks (player.place.seat - 1) 0)) player

-- the seats then
pub record IsRestackedTo (before now : Seating) (table : ℕ) (stacks : List ℕ) (below : ℕ) : Type 0 where
  pub players : now ≡ record before { players = map (restacked_to below table stacks) before.players }
  pub lawful : IsSeating before

one-more : (table : ℕ) (stacks : List ℕ) (below : ℕ) (player : Seated)
    → (let one = restacked_to below table stacks player in
    cond (sits_in (record { table = table; seat = below + 1 }) one) (with_rest one (get_or stacks below 0)) one)
    ≡ restacked_to (below + 1) table stacks player
one-more table stacks below player =
    ap (λ (place : Place). cond (place.table == table && place.seat == below + 1)
    (with_rest (restacked_to below table stacks player) (get_or stacks below 0))
    (restacked_to below table stacks player)) (place_kept (sits_at table player && nat_le player.place.seat below))
    ∙ by_tests (sits_at table player) (nat_le player.place.seat below) refl (player.place.seat == below + 1) refl
    (nat_le player.place.seat (below + 1)) refl
  where
    place_kept : (b : Bool)
        → (cond b (with_rest player (get_or stacks (player.place.seat - 1) 0)) player).place ≡ player.place
    place_kept true = refl
    place_kept false = refl

    by_tests : (here passed : Bool) → nat_le player.place.seat below ≡ passed → (next : Bool)
        → (player.place.seat == below + 1) ≡ next → (later : Bool) → nat_le player.place.seat (below + 1) ≡ later
        → (let one = cond (here && passed) (with_rest player (get_or stacks (player.place.seat - 1) 0)) player in
        cond (here && next) (with_rest one (get_or stacks below 0)) one)
        ≡ cond (here && later) (with_rest player (get_or stacks (player.place.seat - 1) 0)) player
    by_tests false passed passed_is next next_is later later_is = refl
    by_tests true true passed_is true next_is later later_is = absurd (grind (arith, nat_tests))
    by_tests true true passed_is false next_is true later_is = refl
    by_tests true true passed_is false next_is false later_is = absurd (grind (arith, nat_tests))
    by_tests true false passed_is true next_is true later_is =
        let number : below ≡ player.place.seat - 1 = grind (arith, nat_tests) in
        ap (λ (n : ℕ). with_rest player (get_or stacks n 0)) number
    by_tests true false passed_is true next_is false later_is = absurd (grind (arith, nat_tests))
    by_tests true false passed_is false next_is true later_is = absurd (grind (arith, nat_tests))
    by_tests true false passed_is false next_is false later_is = refl

players-more : (table : ℕ) (stacks : List ℕ) (below : ℕ) (players : List Seated)
    → with_stack (record { table = table; seat = below + 1 }) (get_or stacks below 0)
    (map (restacked_to below table stacks) players) ≡ map (restacked_to (below + 1) table stacks) players
players-more table stacks below [] = refl
players-more table stacks below (player ∷ players) =
    λ i. one-more table stacks below player i ∷ players-more table stacks below players i

at-ends : (tables seats table : ℕ) (stacks : List ℕ) (players : List Seated)
    → list_all (sits_within tables seats) players ≡ true
    → (players ≡ map (restacked_to 0 table stacks) players)
    × (map (restacked_to seats table stacks) players ≡ map (restacked table stacks) players)
at-ends tables seats table stacks [] within = (refl, refl)
at-ends tables seats table stacks (player ∷ players) within =
    let parts = and_parts (sits_within tables seats player) (list_all (sits_within tables seats) players) within in
    let rest = at-ends tables seats table stacks players parts.1 in
    let tests = seat_within tables seats player.place.table player.place.seat parts.0 in
    let changed = with_rest player (get_or stacks (player.place.seat - 1) 0) in
    let none : player ≡ restacked_to 0 table stacks player =
    rw tests.0 (sym (no_one (sits_at table player) changed)) in
    let all : restacked_to seats table stacks player ≡ restacked table stacks player =
    rw tests.1 (each (sits_at table player) changed) in
    ((λ i. none i ∷ rest.0 i), (λ i. all i ∷ rest.1 i))
  where
    no_one : (here : Bool) (changed : Seated) → cond (here && false) changed player ≡ player
    no_one true changed = refl
    no_one false changed = refl

    each : (here : Bool) (changed : Seated) → cond (here && true) changed player ≡ cond here changed player
    each true changed = refl
    each false changed = refl

-- Before any seat everyone has what he had.
pub restacked_first : (before : Seating) (table : ℕ) (stacks : List ℕ) → IsSeating before
    → IsRestackedTo before before table stacks 0
restacked_first before table stacks lawful = record {
  players = ap (λ (players : List Seated). record before { players = players })
      (at-ends before.table_count before.seat_count table stacks before.players lawful.within).0;
  lawful = lawful;
}

-- One seat more.
pub restacked_next : (before now next : Seating) (table : ℕ) (stacks : List ℕ) (below stack : ℕ)
    → IsRestackedTo before now table stacks below → stack ≡ get_or stacks below 0
    → next ≡ record now { players = with_stack (record { table = table; seat = below + 1 }) stack now.players }
    → IsRestackedTo before next table stacks (below + 1)
restacked_next before now next table stacks below stack so_far stack_is is = record {
  players = (rw (so_far.players, stack_is) at is)
      ∙ ap (λ (players : List Seated). record before { players = players })
      (players-more table stacks below before.players);
  lawful = so_far.lawful;
}

-- Once all seats are passed, all of the table have theirs.
pub restacked_last : (before now : Seating) (table : ℕ) (stacks : List ℕ) (below : ℕ)
    → IsRestackedTo before now table stacks below → below ≡ before.seat_count
    → now ≡ record before { players = map (restacked table stacks) before.players }
restacked_last before now table stacks below so_far all =
    so_far.players ∙ ap (λ (players : List Seated). record before { players = players })
    (ap (λ (n : ℕ). map (restacked_to n table stacks) before.players) all
    ∙ (at-ends before.table_count before.seat_count table stacks before.players so_far.lawful.within).1)

-- A race that is pending may be made of what was read of its table.
pub may_race : (book : BookState) (table after : ℕ) (cards : List Card) (status : TableStatus) (stacks : List ℕ)
    → IsValid book → is_table_open book table ≡ true → is_playing book table ≡ false → is_race_due book table ≡ true
    → IsDeck cards → status ≡ status_at book.seating.tables table → after ≡ unit_after status
    → stacks ≡ stacks_at book.seating.players table → CanRace stacks status.unit after
may_race book table after cards status stacks valid opened rests due deck status_is after_is stacks_is =
    let there = some_there (status_at book.seating.tables table).race due in
    rw (after_is, status_is, stacks_is) (can_race book table cards valid
    (record { opened = opened; rests = rests; deck = deck; unit = there.0; due = there.1 }))

-- The refusal of a race is that of its checks.
pub race_refusal : (book : BookState) (table : ℕ) (row : CardRow) → book_refusal book (Race table row)
    ≡ first_that_holds (race_checks book table row)
unfolding book_refusal
race_refusal book table row = refl

-- The fields that a race writes make the book of the definition.
pub raced_state : (book : BookState) (table number : ℕ) (cards deck : List Card) (result : RaceResult)
    (restacked_seats after : Seating) → number ≡ table → deck ≡ cards → result ≡ race_at book.seating number deck
    → restacked_seats
    ≡ record book.seating { players = map (restacked number result.stacks) book.seating.players }
    → after ≡ with_table restacked_seats number raced_off
    → record book {
      seating = after;
      removed = book.removed + result.removed;
      added = book.added + result.added;
      accepted = book.accepted + 1;
    } ≡ raced book table cards
raced_state book table number cards deck result restacked_seats after same deck_is result_is restacked_is after_is =
    rw (after_is, restacked_is, result_is, deck_is, same) refl
