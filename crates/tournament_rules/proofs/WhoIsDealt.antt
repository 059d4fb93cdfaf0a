-- Who is dealt in: in which seats, under which names and numbers, and how many.
use Rattle.std.proofs.Common.{◌≡◌, ◌⊎◌, ◌∙◌, refl, sym, ap, subst, ℕ, suc, ◌+◌, ◌≤◌, Bool, true, false, cond, ◌==◌, ◌&&◌, List, [], ◌∷◌, map, length, inl, inr, arith}
use Rattle.std.specs.Prelude.{not, count_by, filter}
use Rattle.std.specs.List.{list_all, list_any}
use Rattle.std.proofs.lemmas.Bool.{and_parts, and_from, or_left, or_right, or_cases, eq-eqb, eqb-true}
use Rattle.std.proofs.lemmas.List.{length-map}
use Rattle.std.proofs.lemmas.List.Sums.{length-filter}
use Rattle.rulebook.specs.Pairs.{are_rising, are_distinct}
use Rattle.rulebook.proofs.Pairs.{is_pairwise-follows, is_pairwise-kept, is_pairwise-map}
use Rattle.rulebook.proofs.Tests.{list_all-filter, eqb-swap, list_all-kept, count_by-cons, list_all-filtered}
use Rattle.std.proofs.lemmas.List.Folds.{list_all-map}
use Rattle.button_blinds.specs.SeatSets.{no_seats, has_seat, with_seat, with_seats, seat_count}
use Rattle.button_blinds.proofs.SeatSetLaws.{has_seat-with_seat, no_seats-none}
use Rattle.button_blinds.proofs.Distances.{dominated}
use Rattle.seat_book.specs.declared.seated.Seated.{Seated}
use Rattle.seat_book.specs.Players.{sits_at, taken_seats, are_in_order, are_apart}
use Rattle.seat_book.proofs.TakenSeats.{sits_in_seats, seats_at, seats_rise, taken_count}
use Rattle.table_engine.specs.declared.start.StartSeat.{StartSeat}
use Rattle.tournament_rules.specs.Players.{start_seat, is_dealt_in, dealt_seats}
use Rattle.tournament_rules.proofs.SitDown.{sits_before, differs, in_order-pairs, apart-pairs}

-- some of the players are in order too
ordered_filter : (keep : Seated → Bool) (players : List Seated) → are_in_order players ≡ true
    → are_in_order (filter keep players) ≡ true
ordered_filter keep players ordered =
    in_order-pairs (filter keep players)
    ∙ is_pairwise-kept sits_before keep players (sym (in_order-pairs players) ∙ ordered)

-- Where no two players have one number, their numbers are distinct.
pub numbers_distinct : (players : List Seated) → are_apart players ≡ true
    → are_distinct (λ one other. one == other) (map (λ player. player.player) players) ≡ true
numbers_distinct players apart =
    is_pairwise-map (λ (one other : ℕ). not (one == other)) (λ (player : Seated). player.player) players
    ∙ is_pairwise-follows differs (λ (one other : Seated). not (one.player == other.player)) players
    (λ one other is. ap not (eqb-swap one.player other.player) ∙ is) (sym (apart-pairs players) ∙ apart)

-- What of a player of a start is as it was of him who is dealt in, is so of all who are.
pub keys_dealt : {K : Type 0} (key : StartSeat → K) (of : Seated → K)
    → ((player : Seated) → key (start_seat player) ≡ of player) → (found : List Seated)
    → map key (map start_seat found) ≡ map of found
keys_dealt key of same [] = refl
keys_dealt key of same (player ∷ found) =
    let here = same player in
    let rest = keys_dealt key of same found in
    cc

-- whether a player's seat is not among those that wait
abbrev pub plays_on : List Bool → Seated → Bool
plays_on waiting player = not (has_seat waiting player.place.seat)

seats_step : (table : ℕ) (waiting : List Bool) (player : Seated) (found : List Seated) (rest : List ℕ) (s w : Bool)
    → sits_at table player ≡ s → plays_on waiting player ≡ w
    → map (λ (player : StartSeat). player.seat) (map start_seat found) ≡ rest
    → map (λ (player : StartSeat). player.seat) (map start_seat (cond (s && w) (player ∷ found) found))
    ≡ cond w (cond s (player.place.seat ∷ rest) rest) rest
seats_step table waiting player found rest true true sits plays same =
    ap (λ (seats : List ℕ). player.place.seat ∷ seats) same
seats_step table waiting player found rest true false sits plays same = same
seats_step table waiting player found rest false true sits plays same = same
seats_step table waiting player found rest false false sits plays same = same

seats_front : (table : ℕ) (waiting : List Bool) (player : Seated) (players : List Seated) (w : Bool)
    → plays_on waiting player ≡ w
    → seats_at table (cond w (player ∷ filter (plays_on waiting) players) (filter (plays_on waiting) players))
    ≡ cond w (cond (sits_at table player) (player.place.seat ∷ seats_at table
    (filter (plays_on waiting) players)) (seats_at table (filter (plays_on waiting) players)))
    (seats_at table (filter (plays_on waiting) players))
seats_front table waiting player players true plays = by_test (sits_at table player)
  where
    by_test : (s : Bool)
        → map (λ (player : Seated). player.place.seat) (cond s
        (player ∷ filter (sits_at table) (filter (plays_on waiting) players))
        (filter (sits_at table) (filter (plays_on waiting) players)))
        ≡ cond s (player.place.seat ∷ seats_at table (filter (plays_on waiting) players))
        (seats_at table (filter (plays_on waiting) players))
    by_test true = refl
    by_test false = refl
seats_front table waiting player players false plays = refl

-- The seats of those who are dealt in are those of a table's players who do not wait.
pub seats_dealt : (table : ℕ) (waiting : List Bool) (players : List Seated)
    → map (λ player. player.seat) (dealt_seats table waiting players)
    ≡ seats_at table (filter (plays_on waiting) players)
seats_dealt table waiting [] = refl
seats_dealt table waiting (player ∷ players) =
    seats_step table waiting player (filter (is_dealt_in table waiting) players)
    (seats_at table (filter (plays_on waiting) players)) (sits_at table player) (plays_on waiting player) refl
    refl (seats_dealt table waiting players)
    ∙ sym (seats_front table waiting player players (plays_on waiting player) refl)

-- The seats of those who are dealt in rise.
pub rising_dealt : (table : ℕ) (waiting : List Bool) (players : List Seated) → are_in_order players ≡ true
    → are_rising (map (λ player. player.seat) (dealt_seats table waiting players)) ≡ true
rising_dealt table waiting players ordered = ap are_rising (seats_dealt table waiting players)
    ∙ seats_rise table (filter (plays_on waiting) players) (ordered_filter (plays_on waiting) players ordered)

-- a seat that is in a set of seats that another set has is in that set
from_other : (set other : List Bool) (seats : List ℕ)
    → ((seat : ℕ) → has_seat set seat ≡ true → has_seat other seat ≡ true) → list_all (has_seat other) seats ≡ true
    → (seat : ℕ) → has_seat (with_seats set seats) seat ≡ true → has_seat other seat ≡ true
from_other set other [] before all seat there = before seat there
from_other set other (next ∷ seats) before all seat there =
    let parts = and_parts (has_seat other next) (list_all (has_seat other) seats) all in
    from_other (with_seat set next) other seats
    (λ found put. elim (has_seat-with_seat set next found put)
    [ inl same ↦ subst (λ (s : ℕ). has_seat other s ≡ true) (sym same) parts.0 | inr was ↦ before found was ])
    parts.1 seat there

-- the seats of those who wait at a table are seats that wait
all_wait : (table : ℕ) (waiting : List Bool) (players : List Seated)
    → list_all (has_seat waiting) (seats_at table (filter (λ player. has_seat waiting player.place.seat) players))
    ≡ true
all_wait table waiting players =
    let waits : Seated → Bool = λ player. has_seat waiting player.place.seat in
    list_all-filter (has_seat waiting) (λ player. player.place.seat) (sits_at table) (filter waits players)
    (list_all-map (has_seat waiting) (λ player. player.place.seat) (filter waits players)
    ∙ list_all-filtered waits players)

-- no more players wait at a table than seats
few_wait : (table : ℕ) (waiting : List Bool) (players : List Seated) → are_in_order players ≡ true
    → list_all (sits_in_seats 10) players ≡ true
    → count_by (sits_at table) (filter (λ player. has_seat waiting player.place.seat) players) ≤ seat_count waiting
few_wait table waiting players ordered within =
    let those = filter (λ (player : Seated). has_seat waiting player.place.seat) players in
    let counted = taken_count table those (ordered_filter (λ player. has_seat waiting player.place.seat) players
    ordered) (list_all-kept (sits_in_seats 10) (λ player. has_seat waiting player.place.seat) players
    within) in
    let fewer = dominated (taken_seats those table) waiting (λ k there.
    from_other no_seats waiting (seats_at table those) (λ seat put. let none = no_seats-none seat in absurd cc)
    (all_wait table waiting players) (suc k) there) in
    omega (arith, counted, fewer)

split_step : (s w : Bool) → cond (s && not w) 1 0 + cond w (cond s 1 0) 0 ≡ cond {A = ℕ} s 1 0
split_step true true = refl
split_step true false = refl
split_step false true = refl
split_step false false = refl

count_front : (table : ℕ) (keep : Seated → Bool) (player : Seated) (players : List Seated) (b : Bool) → keep player ≡ b
    → count_by (sits_at table) (cond b (player ∷ filter keep players) (filter keep players))
    ≡ cond b (cond (sits_at table player) 1 0) 0 + count_by (sits_at table) (filter keep players)
count_front table keep player players true kept =
    count_by-cons (sits_at table) player (filter keep players)
count_front table keep player players false kept = omega arith

-- who sits at a table is dealt in or waits
dealt_or_waits : (table : ℕ) (waiting : List Bool) (players : List Seated)
    → count_by (is_dealt_in table waiting) players + count_by (sits_at table)
    (filter (λ player. has_seat waiting player.place.seat) players) ≡ count_by (sits_at table) players
dealt_or_waits table waiting [] = refl
dealt_or_waits table waiting (player ∷ players) =
    let dealt = count_by-cons (is_dealt_in table waiting) player players in
    let waits = count_front table (λ player. has_seat waiting player.place.seat) player players
    (has_seat waiting player.place.seat) refl in
    let sits = count_by-cons (sits_at table) player players in
    let both = split_step (sits_at table player) (has_seat waiting player.place.seat) in
    omega (arith, dealt, waits, sits, both, dealt_or_waits table waiting players)

length_dealt : (table : ℕ) (waiting : List Bool) (players : List Seated)
    → length (dealt_seats table waiting players) ≡ count_by (is_dealt_in table waiting) players
length_dealt table waiting players =
    length-map (filter (is_dealt_in table waiting) players) start_seat
    ∙ length-filter (is_dealt_in table waiting) players

-- Who sits at a table is dealt in, but for as many as there are seats that wait.
pub most_dealt : (table : ℕ) (waiting : List Bool) (players : List Seated) → are_in_order players ≡ true
    → list_all (sits_in_seats 10) players ≡ true
    → seat_count (taken_seats players table) ≤ length (dealt_seats table waiting players) + seat_count waiting
most_dealt table waiting players ordered within =
    let counted = taken_count table players ordered within in
    let few = few_wait table waiting players ordered within in
    let all = dealt_or_waits table waiting players in
    let size = length_dealt table waiting players in
    omega (arith, counted, few, all, size)

-- whether a player sits in this seat of this table
abbrev sits_there : ℕ → ℕ → Seated → Bool
sits_there table seat player = sits_at table player && player.place.seat == seat

taken_step : (table seat : ℕ) (set : List Bool) (player : Seated) (players : List Seated) (s : Bool)
    → sits_at table player ≡ s
    → ((set : List Bool) → has_seat (with_seats set (seats_at table players)) seat ≡ true
    → (has_seat set seat ≡ true) ⊎ (list_any (sits_there table seat) players ≡ true))
    → has_seat (with_seats set (map (λ player. player.place.seat)
    (cond s (player ∷ filter (sits_at table) players) (filter (sits_at table) players)))) seat ≡ true
    → (has_seat set seat ≡ true) ⊎ (list_any (sits_there table seat) (player ∷ players) ≡ true)
taken_step table seat set player players true sits others there =
    elim (others (with_seat set player.place.seat) there) [
      | inl put ↦ elim (has_seat-with_seat set player.place.seat seat put) [
        | inl same ↦ inr (or_left _ _ (and_from (sits_at table player) (player.place.seat == seat) sits
            (eq-eqb player.place.seat seat (sym same))))
        | inr was ↦ inl was
      ]
      | inr found ↦ inr (or_right (sits_there table seat player) _ found)
    ]
taken_step table seat set player players false sits others there = elim (others set there) [
  | inl was ↦ inl was
  | inr found ↦ inr (or_right (sits_there table seat player) _ found)
]

-- who sits in a seat of a table that is taken
taken_by : (table seat : ℕ) (players : List Seated) (set : List Bool)
    → has_seat (with_seats set (seats_at table players)) seat ≡ true
    → (has_seat set seat ≡ true) ⊎ (list_any (sits_there table seat) players ≡ true)
taken_by table seat [] set there = inl there
taken_by table seat (player ∷ players) set there = taken_step table seat set player players (sits_at table player)
    refl (λ set there. taken_by table seat players set there) there

dealt_step : (table seat : ℕ) (waiting : List Bool) (player : Seated) (found : List Seated) (d : Bool)
    → is_dealt_in table waiting player ≡ d → has_seat waiting seat ≡ false
    → (sits_there table seat player ≡ true) ⊎ (list_any (λ (player : StartSeat). player.seat == seat)
    (map start_seat found) ≡ true)
    → list_any (λ (player : StartSeat). player.seat == seat) (map start_seat (cond d (player ∷ found) found)) ≡ true
dealt_step table seat waiting player found true dealt plays sits = elim sits [
  | inl here ↦ or_left _ _ (and_parts (sits_at table player) (player.place.seat == seat) here).1
  | inr later ↦ or_right (player.place.seat == seat) _ later
]
dealt_step table seat waiting player found false dealt plays sits = elim sits [
  | inl here ↦
      let parts = and_parts (sits_at table player) (player.place.seat == seat) here in
      let on : has_seat waiting player.place.seat ≡ false =
      subst (λ (s : ℕ). has_seat waiting s ≡ false) (sym (eqb-true player.place.seat seat parts.1)) plays in
      let in_it : is_dealt_in table waiting player ≡ true = rw (parts.0, on) refl in
      absurd cc
  | inr later ↦ later
]

dealt_by : (table seat : ℕ) (waiting : List Bool) (players : List Seated) → has_seat waiting seat ≡ false
    → list_any (sits_there table seat) players ≡ true
    → list_any (λ (player : StartSeat). player.seat == seat) (dealt_seats table waiting players) ≡ true
dealt_by table seat waiting [] plays sits = cc
dealt_by table seat waiting (player ∷ players) plays sits =
    dealt_step table seat waiting player (filter (is_dealt_in table waiting) players)
    (is_dealt_in table waiting player) refl plays (elim
    (or_cases (sits_there table seat player) (list_any (sits_there table seat) players) sits) [
      | inl here ↦ inl here
      | inr later ↦ inr (dealt_by table seat waiting players plays later)
    ])

-- Who sits in a taken seat of a table that does not wait is dealt in.
pub dealt_there : (table seat : ℕ) (waiting : List Bool) (players : List Seated)
    → has_seat (taken_seats players table) seat ≡ true → has_seat waiting seat ≡ false
    → list_any (λ player. player.seat == seat) (dealt_seats table waiting players) ≡ true
dealt_there table seat waiting players taken plays = elim (taken_by table seat players no_seats taken) [
  | inl there ↦ let none = no_seats-none seat in absurd cc
  | inr sits ↦ dealt_by table seat waiting players plays sits
]
