-- What becomes of the players when a hand begins.
use Rattle.std.proofs.Common.{◌≡◌, ◌∙◌, refl, sym, ap, ℕ, ◌+◌, ◌%◌, Bool, true, false, cond, ◌==◌, ◌&&◌, List, [], ◌∷◌, map, arith}
use Rattle.std.specs.Prelude.{not, filter, sum_by}
use Rattle.std.specs.List.{list_all}
use Rattle.std.proofs.Math.Nat.{zero-mod}
use Rattle.std.proofs.lemmas.Bool.{and_parts, and_from, eq-eqb, eqb-true, not-true}
use Rattle.std.proofs.lemmas.Bool.Decides.{nat_tests}
use Rattle.std.proofs.lemmas.List.Sums.{sum_by-cons}
use Rattle.rulebook.proofs.Passing.{filter-none, none-filter}
use Rattle.button_blinds.specs.SeatSets.{has_seat}
use Rattle.seat_book.specs.declared.seated.Seated.{Seated}
use Rattle.seat_book.specs.declared.table_status.TableStatus.{TableStatus}
use Rattle.seat_book.specs.Players.{sits_at}
use Rattle.seat_book.specs.Tables.{status_at}
use Rattle.table_engine.specs.declared.start.StartSeat.{StartSeat}
use Rattle.table_engine.specs.Starts.{is_playable_stack, have_playable_stacks, chips_of}
use Rattle.tournament_rules.specs.Players.{start_seat, with_rest, is_dealt_in, dealt_seats, dealt_in}
use Rattle.tournament_rules.specs.Units.{is_whole_at, AreWhole}
use Rattle.tournament_rules.specs.Valid.{is_lent, without_stack}
use Rattle.tournament_rules.proofs.Restacked.{ChangesStacks}
use Rattle.tournament_rules.proofs.Paying.{sits_elsewhere, stack_of}

-- a player as a hand begins: without his chips, if he is dealt in
abbrev pub as_dealt : ℕ → List Bool → Seated → Seated
as_dealt table waiting player = cond (is_dealt_in table waiting player) (with_rest player 0) player

-- Who is dealt in keeps all but his stack.
pub dealt-stacks : (table : ℕ) (waiting : List Bool) → ChangesStacks (as_dealt table waiting)
dealt-stacks table waiting = record { same = λ player. by_test (is_dealt_in table waiting player) player }
  where
    by_test : (b : Bool) (player : Seated)
        → cond b (with_rest player 0) player ≡ with_rest player (cond b (with_rest player 0) player).stack
    by_test true player = refl
    by_test false player = refl

rest-step : (table : ℕ) (waiting : List Bool) (player : Seated) (players : List Seated) (b : Bool)
    → sum_by stack_of (dealt_in table waiting players) + chips_of (dealt_seats table waiting players)
    ≡ sum_by stack_of players
    → sum_by stack_of (cond b (with_rest player 0) player ∷ dealt_in table waiting players) + chips_of
    (map start_seat (cond b (player ∷ filter (is_dealt_in table waiting) players)
    (filter (is_dealt_in table waiting) players))) ≡ sum_by stack_of (player ∷ players)
rest-step table waiting player players true others = simp sum_by-cons (omega (arith, others))
rest-step table waiting player players false others = simp sum_by-cons (omega (arith, others))

-- The chips of those who are dealt in leave the stacks at rest.
pub rest-dealt_in : (table : ℕ) (waiting : List Bool) (players : List Seated)
    → sum_by stack_of (dealt_in table waiting players) + chips_of (dealt_seats table waiting players)
    ≡ sum_by stack_of players
rest-dealt_in table waiting [] = refl
rest-dealt_in table waiting (player ∷ players) =
    rest-step table waiting player players (is_dealt_in table waiting player) (rest-dealt_in table waiting players)

-- Where nothing passes for a list, its first does not and none of the others do.
pub none_first : {A : Type 0} (test : A → Bool) (first : A) (others : List A) → filter test (first ∷ others) ≡ []
    → (test first ≡ false) × (filter test others ≡ [])
none_first test first others none =
    let parts = and_parts (not (test first)) (list_all (λ item. not (test item)) others)
    (none-filter test (first ∷ others) none) in
    (not-true (test first) parts.0, filter-none test others parts.1)

lent-step : (table : ℕ) (waiting : List Bool) (player : Seated) (players : List Seated) (b : Bool)
    → is_dealt_in table waiting player ≡ b → is_lent table player ≡ false
    → map start_seat (filter (is_lent table) (dealt_in table waiting players))
    ≡ map without_stack (dealt_seats table waiting players)
    → map start_seat (filter (is_lent table) (cond b (with_rest player 0) player ∷ dealt_in table waiting players))
    ≡ map without_stack (map start_seat (cond b (player ∷ filter (is_dealt_in table waiting) players)
    (filter (is_dealt_in table waiting) players)))
lent-step table waiting player players true is none rest =
    let sits = (and_parts (sits_at table player) (not (has_seat waiting player.place.seat)) is).0 in
    rw sits (ap (λ (others : List StartSeat). without_stack (start_seat player) ∷ others) rest)
lent-step table waiting player players false is none rest = rw none rest

-- Where everyone at a table had something at rest, those who have nothing once a hand begins there are dealt in.
pub lent-dealt_in : (table : ℕ) (waiting : List Bool) (players : List Seated) → filter (is_lent table) players ≡ []
    → map start_seat (filter (is_lent table) (dealt_in table waiting players))
    ≡ map without_stack (dealt_seats table waiting players)
lent-dealt_in table waiting [] none = refl
lent-dealt_in table waiting (player ∷ players) none =
    let parts = none_first (is_lent table) player players none in
    lent-step table waiting player players (is_dealt_in table waiting player) refl parts.0
    (lent-dealt_in table waiting players parts.1)

-- Those who have nothing at rest at another table are who they were.
pub lent_elsewhere-dealt_in : (table other : ℕ) (waiting : List Bool) (players : List Seated) → (table == other) ≡ false
    → filter (is_lent other) (dealt_in table waiting players) ≡ filter (is_lent other) players
lent_elsewhere-dealt_in table other waiting [] differ = refl
lent_elsewhere-dealt_in table other waiting (player ∷ players) differ =
    by_test (is_dealt_in table waiting player) refl (lent_elsewhere-dealt_in table other waiting players differ)
  where
    by_test : (b : Bool) → is_dealt_in table waiting player ≡ b
        → filter (is_lent other) (dealt_in table waiting players) ≡ filter (is_lent other) players
        → filter (is_lent other) (cond b (with_rest player 0) player ∷ dealt_in table waiting players)
        ≡ filter (is_lent other) (player ∷ players)
    by_test true is rest =
        let sits = (and_parts (sits_at table player) (not (has_seat waiting player.place.seat)) is).0 in
        let away = sits_elsewhere player.place.table table other differ sits in
        rw (away, rest) refl
    by_test false is rest = ap (λ (found : List Seated). cond (is_lent other player) (player ∷ found) found) rest

-- Nothing is a multiple of any unit.
pub nothing_whole : (unit : ℕ) → (0 % unit == 0) ≡ true
nothing_whole unit = eq-eqb (0 % unit) 0 (zero-mod unit)

-- Every stack at rest is a multiple of its table's unit where every one was.
pub whole-dealt_in : (tables : List TableStatus) (table : ℕ) (waiting : List Bool) (players : List Seated)
    → AreWhole tables players → AreWhole tables (dealt_in table waiting players)
whole-dealt_in tables table waiting [] whole = refl
whole-dealt_in tables table waiting (player ∷ players) whole =
    let parts = and_parts (is_whole_at tables player) (list_all (is_whole_at tables) players) whole in
    and_from _ _ (by_test (is_dealt_in table waiting player) parts.0)
    (whole-dealt_in tables table waiting players parts.1)
  where
    by_test : (b : Bool) → is_whole_at tables player ≡ true
        → is_whole_at tables (cond b (with_rest player 0) player) ≡ true
    by_test true his = nothing_whole (status_at tables player.place.table).unit
    by_test false his = his

playable-step : (tables : List TableStatus) (table : ℕ) (waiting : List Bool) (player : Seated) (players : List Seated)
    (b : Bool) → is_dealt_in table waiting player ≡ b → is_lent table player ≡ false
    → is_whole_at tables player ≡ true
    → have_playable_stacks (status_at tables table).unit (dealt_seats table waiting players) ≡ true
    → have_playable_stacks (status_at tables table).unit (map start_seat
    (cond b (player ∷ filter (is_dealt_in table waiting) players) (filter (is_dealt_in table waiting) players)))
    ≡ true
playable-step tables table waiting player players true is none whole rest =
    let sits = (and_parts (sits_at table player) (not (has_seat waiting player.place.seat)) is).0 in
    let here = eqb-true player.place.table table sits in
    let his = ap (λ (number : ℕ). player.stack % (status_at tables number).unit == 0) (sym here) ∙ whole in
    let unit = (status_at tables table).unit in
    and_from (is_playable_stack unit player.stack) _ (above (sits_at table player) player.stack unit sits none his)
    rest
  where
    above : (sits : Bool) (stack unit : ℕ) → sits ≡ true → (sits && stack == 0) ≡ false → (stack % unit == 0) ≡ true
        → is_playable_stack unit stack ≡ true
    above true stack unit sits none whole = and_from _ _ (grind (arith, nat_tests)) whole
    above false stack unit sits none whole = absurd cc
playable-step tables table waiting player players false is none whole rest = rest

-- Where everyone at a table has something at rest, a multiple of its unit, who is dealt in can play with his stack.
pub playable-dealt : (tables : List TableStatus) (table : ℕ) (waiting : List Bool) (players : List Seated)
    → filter (is_lent table) players ≡ [] → AreWhole tables players
    → have_playable_stacks (status_at tables table).unit (dealt_seats table waiting players) ≡ true
playable-dealt tables table waiting [] none whole = refl
playable-dealt tables table waiting (player ∷ players) none whole =
    let lent = none_first (is_lent table) player players none in
    let parts = and_parts (is_whole_at tables player) (list_all (is_whole_at tables) players) whole in
    playable-step tables table waiting player players (is_dealt_in table waiting player) refl lent.0 parts.0
    (playable-dealt tables table waiting players lent.1 parts.1)
