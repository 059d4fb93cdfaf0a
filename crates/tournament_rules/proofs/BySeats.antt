-- The players of a table by its ten seats.
use Rattle.std.proofs.Common.{◌≡◌, ◌∙◌, refl, ap, subst, ℕ, zero, suc, ◌+◌, ◌<◌, ◌≤◌, Bool, true, false, cond, ◌==◌, ◌&&◌, List, [], ◌∷◌, length, get_or, arith}
use Rattle.std.specs.Prelude.{not, sum, sum_by, Option, Some, None}
use Rattle.std.specs.List.{list_all}
use Rattle.std.specs.Option.{option_map_or}
use Rattle.std.proofs.Math.Nat.{zero-add}
use Rattle.std.proofs.lemmas.Bool.{and_parts, eqb-true}
use Rattle.std.proofs.lemmas.Bool.Decides.{nat_tests}
use Rattle.std.proofs.lemmas.List.{get_or-map}
use Rattle.std.proofs.lemmas.List.Sums.{sum_by-cons, sum-map}
use Rattle.rulebook.specs.Seats.{walk}
use Rattle.rulebook.specs.Pairs.{is_pairwise}
use Rattle.rulebook.proofs.Passing.{find-none}
use Rattle.rulebook.proofs.Tests.{list_all-follows}
use Rattle.rulebook.proofs.Walks.{get_or-walk}
use Rattle.seat_book.specs.declared.place.Place.{Place}
use Rattle.seat_book.specs.declared.seated.Seated.{Seated}
use Rattle.seat_book.specs.Players.{sits_at, sits_in, player_at}
use Rattle.seat_book.proofs.PlaceOrder.{before-other}
use Rattle.seat_book.proofs.TakenSeats.{sits_in_seats}
use Rattle.tournament_rules.specs.Racing.{stack_in, stacks_at}
use Rattle.tournament_rules.proofs.Fitting.{table_range}
use Rattle.tournament_rules.proofs.SitDown.{sits_before}

-- the ten seats of a table
abbrev pub ten_seats : List ℕ
ten_seats = walk suc 10 0

-- the player who sits in a seat of a table, if one does
abbrev pub player_in : List Seated → ℕ → ℕ → Option Seated
player_in players table seat = player_at players (record { table = table; seat = seat })

-- Where each has a value by its place in a row of seats, the values of the row sum to those of the list.
pub walk-sum : (values : List ℕ) (from : ℕ) (value : ℕ → ℕ)
    → ((index : ℕ) → index < length values → value (from + index + 1) ≡ get_or values index 0)
    → sum_by value (walk suc (length values) from) ≡ sum values
walk-sum [] from value each = refl
walk-sum (first ∷ values) from value each =
    let one = sum_by-cons value (suc from) (walk suc (length values) (suc from)) in
    let all = sum_by-cons (λ (n : ℕ). n) first values in
    let next : suc from ≡ from + 0 + 1 = omega arith in
    let here = ap value next ∙ each 0 (omega arith) in
    let rest = walk-sum values (suc from) value (λ index within.
    let number : suc from + index + 1 ≡ from + suc index + 1 = omega arith in
    ap value number ∙ each (suc index) (omega (arith, within))) in
    omega (arith, one, all, here, rest)

-- Sums over seats are the same where the values in each seat are.
pub walk-alike : (count from : ℕ) (one other : ℕ → ℕ)
    → ((seat : ℕ) → from < seat → seat ≤ from + count → one seat ≡ other seat)
    → sum_by one (walk suc count from) ≡ sum_by other (walk suc count from)
walk-alike zero from one other same = refl
walk-alike (suc count) from one other same =
    let here = sum_by-cons one (suc from) (walk suc count (suc from)) in
    let there = sum_by-cons other (suc from) (walk suc count (suc from)) in
    let first = same (suc from) (omega arith) (omega arith) in
    let rest = walk-alike count (suc from) one other (λ seat low high. same seat (omega (arith, low))
    (omega (arith, high))) in
    omega (arith, here, there, first, rest)

-- A value in one seat more is summed with the others.
walk-more : (count from seat more : ℕ) (one other : ℕ → ℕ) → from < seat → seat ≤ from + count
    → ((at : ℕ) → one at ≡ cond (seat == at) more 0 + other at)
    → sum_by one (walk suc count from) ≡ more + sum_by other (walk suc count from)
walk-more zero from seat more one other low high same = absurd (omega (arith, low, high))
walk-more (suc count) from seat more one other low high same =
    by_seat (seat == suc from) refl
    (λ low high. walk-more count (suc from) seat more one other low high same)
  where
    here : sum_by one (walk suc (suc count) from) ≡ one (suc from) + sum_by one (walk suc count (suc from))
    here = sum_by-cons one (suc from) (walk suc count (suc from))

    there : sum_by other (walk suc (suc count) from) ≡ other (suc from) + sum_by other (walk suc count (suc from))
    there = sum_by-cons other (suc from) (walk suc count (suc from))

    later : (seat at from : ℕ) → (seat == suc from) ≡ true → suc from < at → (seat == at) ≡ false
    later seat at from is low = grind (arith, nat_tests)

    higher : (seat from : ℕ) → (seat == suc from) ≡ false → from < seat → suc from < seat
    higher seat from differ low = grind (arith, nat_tests)

    by_seat : (b : Bool) → (seat == suc from) ≡ b
        → (suc from < seat → seat ≤ suc from + count
        → sum_by one (walk suc count (suc from)) ≡ more + sum_by other (walk suc count (suc from)))
        → sum_by one (walk suc (suc count) from) ≡ more + sum_by other (walk suc (suc count) from)
    by_seat true is later_more =
        let his = same (suc from) ∙ ap (λ (b : Bool). cond {A = ℕ} b more 0 + other (suc from)) is in
        let rest = walk-alike count (suc from) one other (λ at above below.
        same at ∙ (ap (λ (b : Bool). cond {A = ℕ} b more 0 + other at) (later seat at from is above)
        ∙ zero-add (other at))) in
        let one_sum = here in
        let other_sum = there in
        omega (arith, one_sum, other_sum, his, rest)
    by_seat false is later_more =
        let his = same (suc from) ∙ ap (λ (b : Bool). cond {A = ℕ} b more 0 + other (suc from)) is in
        let rest = later_more (higher seat from is low) (omega (arith, high)) in
        let one_sum = here in
        let other_sum = there in
        omega (arith, one_sum, other_sum, his, rest)

-- Nobody who comes later sits in a player's place.
pub none_later : (player : Seated) (players : List Seated) → list_all (sits_before player) players ≡ true
    → player_at players player.place ≡ None
none_later player players later =
    find-none (sits_in player.place) players
    (list_all-follows (sits_before player) (λ other. not (sits_in player.place other)) players
    (λ other is. ap not
    (before-other player.place.table player.place.seat other.place.table other.place.seat is)) later)

-- What is summed over the seats of a table, of the player in each, is summed over those who sit there.
pub seats-sum : (f : Seated → ℕ) (table : ℕ) (players : List Seated) → is_pairwise sits_before players ≡ true
    → list_all (sits_in_seats 10) players ≡ true
    → sum_by (λ seat. option_map_or f (player_in players table seat) 0) ten_seats
    ≡ sum_by (λ player. cond (sits_at table player) (f player) 0) players
seats-sum f table [] ordered within = refl
seats-sum f table (player ∷ players) ordered within =
    let apart = and_parts (list_all (sits_before player) players) (is_pairwise sits_before players) ordered in
    let here = and_parts (sits_in_seats 10 player) (list_all (sits_in_seats 10) players) within in
    let seat = table_range 1 10 player.place.seat here.0 in
    let rest = seats-sum f table players apart.1 here.1 in
    let all = sum_by-cons (λ (other : Seated). cond (sits_at table other) (f other) 0) player players in
    by_table (sits_at table player) refl (none_later player players apart.0)
    (omega (arith, seat.0)) (omega (arith, seat.1)) rest all
  where
    first : (b : Bool) (seat : ℕ) → sits_at table player ≡ b
        → option_map_or f (player_in (player ∷ players) table seat) 0
        ≡ option_map_or f (cond (b && player.place.seat == seat) (Some player) (player_in players table seat)) 0
    first b seat is = ap (λ (b : Bool). option_map_or f (cond (b && player.place.seat == seat) (Some player)
        (player_in players table seat)) 0) is

    by_table : (b : Bool) → sits_at table player ≡ b → player_at players player.place ≡ None → 0 < player.place.seat
        → player.place.seat ≤ 0 + 10
        → sum_by (λ seat. option_map_or f (player_in players table seat) 0) ten_seats
        ≡ sum_by (λ player. cond (sits_at table player) (f player) 0) players
        → sum_by (λ (other : Seated). cond (sits_at table other) (f other) 0) (player ∷ players)
        ≡ cond (sits_at table player) (f player) 0
        + sum_by (λ (other : Seated). cond (sits_at table other) (f other) 0) players
        → sum_by (λ seat. option_map_or f (player_in (player ∷ players) table seat) 0) ten_seats
        ≡ sum_by (λ (other : Seated). cond (sits_at table other) (f other) 0) (player ∷ players)
    by_table false is none low high rest all =
        let same = walk-alike 10 0 (λ seat. option_map_or f (player_in (player ∷ players) table seat) 0)
        (λ seat. option_map_or f (player_in players table seat) 0) (λ seat above below. first false seat is) in
        let his = ap (λ (b : Bool). cond {A = ℕ} b (f player) 0) is in
        omega (arith, same, rest, all, his)
    by_table true is none low high rest all =
        let more = walk-more 10 0 player.place.seat (f player)
        (λ seat. option_map_or f (player_in (player ∷ players) table seat) 0)
        (λ seat. option_map_or f (player_in players table seat) 0) low high
        (λ seat. first true seat is ∙ by_seat seat (player.place.seat == seat) refl) in
        let his = ap (λ (b : Bool). cond {A = ℕ} b (f player) 0) is in
        omega (arith, more, rest, all, his)
      where
        by_seat : (seat : ℕ) (b : Bool) → (player.place.seat == seat) ≡ b
            → option_map_or f (cond b (Some player) (player_in players table seat)) 0
            ≡ cond b (f player) 0 + option_map_or f (player_in players table seat) 0
        by_seat seat true same =
            let at = eqb-true player.place.seat seat same in
            let number = eqb-true player.place.table table is in
            let nobody : player_in players table seat ≡ None =
            subst (λ (place : Place). player_at players place ≡ None) (place_is number at) none in
            let none : option_map_or f (player_in players table seat) 0
            ≡ 0 = ap (λ (found : Option Seated). option_map_or f found 0) nobody in
            omega (arith, none)
          where
            place_is : player.place.table ≡ table → player.place.seat ≡ seat
                → player.place ≡ record { table = table; seat = seat }
            place_is one other = λ i. record { table = one i; seat = other i }
        by_seat seat false differ = omega arith

-- The stack at each index is that in the seat of the next number.
pub stacks-at : (players : List Seated) (table index : ℕ) → index < 10
    → get_or (stacks_at players table) index 0 ≡ stack_in players (record { table = table; seat = index + 1 })
stacks-at players table index within =
    let stack : ℕ → ℕ = λ seat. stack_in players (record { table = table; seat = seat }) in
    let number = get_or-walk 10 0 index 0 within in
    let next : get_or ten_seats index 0 ≡ index + 1 = omega (arith, number) in
    get_or-map stack ten_seats index 0 0 within ∙ ap stack next

-- The stacks in the seats of a table sum to those of its players.
pub stacks-sum : (table : ℕ) (players : List Seated) → is_pairwise sits_before players ≡ true
    → list_all (sits_in_seats 10) players ≡ true
    → sum (stacks_at players table) ≡ sum_by (λ player. cond (sits_at table player) player.stack 0) players
stacks-sum table players ordered within =
    sum-map (λ seat. stack_in players (record { table = table; seat = seat })) ten_seats
    ∙ seats-sum (λ player. player.stack) table players ordered within
