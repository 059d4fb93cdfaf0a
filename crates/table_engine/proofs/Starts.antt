-- The first street of a hand that starts lawfully.
use Rattle.std.proofs.Common.{◌≡◌, ℕ, zero, suc, ◌+◌, ◌*◌, ◌≤◌, ◌^◌, Bool, true, false, cond, List, [], ◌∷◌, map, Some, None, refl, arith, ◌<◌}
use Rattle.std.specs.Prelude.{Option, ◌==◌, nat_le, option_map, sum_by}
use Rattle.std.specs.List.{list_all}
use Rattle.std.proofs.Math.Nat.{suc-mul}
use Rattle.std.proofs.lemmas.Bool.{and_from, leb-true, le-leb, eqb-true}
use Rattle.std.proofs.lemmas.Bool.Decides.{nat_tests}
use Rattle.std.proofs.lemmas.List.Sums.{sum_by-cons}
use Rattle.rulebook.specs.Seats.{walk}
use Rattle.rulebook.proofs.Tests.{find-all, find-passes, list_all-follows}
use Rattle.betting_round.specs.StreetActs as acts
use Rattle.betting_round.specs.StreetActs.{AreSeated, IsStreetStart, sum_over}
use Rattle.betting_round.proofs.Steps.{sum_map}
use Rattle.table_engine.specs.declared.start.HandStart.{HandStart}
use Rattle.table_engine.specs.declared.start.StartSeat.{StartSeat}
use Rattle.table_engine.specs.Starts.{IsLawfulStart, chips_of}
use Rattle.table_engine.specs.Hands.{ante_posted, blind_of, dead_chips, first_street, lacking, player_of, players_by_seat, seated}
use Rattle.table_engine.proofs.Running.{lawful-big, lawful-small, lawful-unit}

-- Who is found at a seat sits there.
pub player_of-seat : (start : HandStart) (seat : ℕ) (player : StartSeat) → player_of start seat ≡ Some player
    → player.seat ≡ seat
player_of-seat start seat player found = eqb-true player.seat seat
    (find-passes (λ (other : StartSeat). other.seat == seat) start.seats player found)

-- Players who are listed by the seats in which they sit sit in the seats of their indices in the list.
seated-by_seat : (start : HandStart) (steps from : ℕ)
    → AreSeated (from + 1) (map (option_map (seated start))
    (map (player_of start) (walk (λ seat. seat + 1) steps from)))
seated-by_seat start zero from = tt
seated-by_seat start (suc steps) from = by_slot (player_of start (from + 1)) refl
    (seated-by_seat start steps (from + 1))
  where
    by_slot : (slot : Option StartSeat) → player_of start (from + 1) ≡ slot
        → AreSeated (from + 1 + 1) (map (option_map (seated start))
        (map (player_of start) (walk (λ seat. seat + 1) steps (from + 1))))
        → AreSeated (from + 1) (option_map (seated start) slot ∷ map (option_map (seated start))
        (map (player_of start) (walk (λ seat. seat + 1) steps (from + 1))))
    by_slot None is later = later
    by_slot (Some player) is later = (player_of-seat start (from + 1) player is, later)

-- The numbers of those at some seats sum to no more than the most for each seat.
sum-by_seat : (start : HandStart) (number : StartSeat → ℕ) (most steps from : ℕ)
    → ((seat : ℕ) (player : StartSeat) → player_of start seat ≡ Some player → number player ≤ most)
    → sum_over number (map (player_of start) (walk (λ seat. seat + 1) steps from)) ≤ steps * most
sum-by_seat start number most zero from each = omega arith
sum-by_seat start number most (suc steps) from each =
    by_slot (player_of start (from + 1)) refl (sum-by_seat start number most steps (from + 1) each)
  where
    by_slot : (slot : Option StartSeat) → player_of start (from + 1) ≡ slot
        → sum_over number (map (player_of start) (walk (λ seat. seat + 1) steps (from + 1))) ≤ steps * most
        → sum_over number (slot ∷ map (player_of start) (walk (λ seat. seat + 1) steps (from + 1))) ≤ suc steps * most
    by_slot None is later = let more = suc-mul steps most in omega arith
    by_slot (Some player) is later =
        let here = each (from + 1) player is in let more = suc-mul steps most in omega arith

-- Each number is at most the sum.
pub each-in_sum : (number : StartSeat → ℕ) (players : List StartSeat)
    → list_all (λ player. nat_le (number player) (sum_by number players)) players ≡ true
each-in_sum number [] = refl
each-in_sum number (player ∷ players) =
    let all = sum_by-cons number player players in
    let here : nat_le (number player) (sum_by number (player ∷ players)) ≡ true =
    le-leb (number player) _ (omega arith) in
    let later = list_all-follows (λ (other : StartSeat). nat_le (number other) (sum_by number players))
    (λ (other : StartSeat). nat_le (number other) (sum_by number (player ∷ players))) players
    (λ other within. let less = leb-true (number other) (sum_by number players) within in
    le-leb (number other) _ (omega arith)) (each-in_sum number players) in
    and_from _ _ here later

-- A blind is no greater than the greatest amount.
blind-most : (start : HandStart) (seat : ℕ) → IsLawfulStart start → blind_of start seat ≤ 1000000000
blind-most start seat lawful =
    let big = lawful-big start lawful in let small = lawful-small start lawful in grind (arith, nat_tests)

-- The chips of all who are dealt in are far from the end of their type.
pub few-lacking : (start : HandStart) → IsLawfulStart start
    → sum_over (lacking start) (players_by_seat start) ≤ 10000000000
few-lacking start lawful =
    sum-by_seat start (lacking start) 1000000000 10 0
    (λ seat player found. let most = blind-most start player.seat lawful in omega arith)

pub few-stacks : (start : HandStart) → IsLawfulStart start
    → sum_over acts.chips_of (map (option_map (seated start)) (players_by_seat start)) ≤ 10 * 2 ^ 53
few-stacks start lawful =
    let made = sum_map acts.chips_of (seated start) (players_by_seat start) in
    let few = lawful.chips in
    let most = sum-by_seat start (λ player. acts.chips_of (seated start player)) (2 ^ 53) 10 0 (λ seat player found.
    let stack = leb-true player.stack _ (find-all (λ (other : StartSeat). other.seat == seat)
    (λ (other : StartSeat). nat_le other.stack (sum_by
    (λ (o : StartSeat). o.stack) start.seats)) start.seats player found
    (each-in_sum (λ (o : StartSeat). o.stack) start.seats)) in
    omega arith) in
    omega arith

-- The antes are no more than the stacks.
pub few-dead : (start : HandStart) → dead_chips start ≤ chips_of start.seats
few-dead start = by_list start.seats
  where
    by_list : (players : List StartSeat) → sum_by (ante_posted start) players ≤ sum_by (λ player. player.stack) players
    by_list [] = omega arith
    by_list (player ∷ players) =
        let ante = sum_by-cons (ante_posted start) player players in
        let stack = sum_by-cons (λ (other : StartSeat). other.stack) player players in
        let later = by_list players in
        omega arith

-- Where the level has no ante nobody posts one.
pub no-dead : (start : HandStart) → start.blind.ante ≡ 0 → dead_chips start ≡ 0
no-dead start none = by_list start.seats
  where
    none_due : (big : Bool) → cond big start.blind.ante 0 ≡ 0
    none_due true = none
    none_due false = refl

    by_list : (players : List StartSeat) → sum_by (ante_posted start) players ≡ 0
    by_list [] = refl
    by_list (player ∷ players) =
        let due = none_due (player.seat == start.marks.big) in
        let all = sum_by-cons (ante_posted start) player players in
        let later = by_list players in
        omega (arith, due, all, later)

-- What the players of a hand that starts lawfully have and the antes are far from the end of their type.
pub few-first : (start : HandStart) → IsLawfulStart start
    → dead_chips start + sum_over acts.chips_of (first_street start).bettors < 2 ^ 60
few-first start lawful =
    let dead = few-dead start in
    let stacks = few-stacks start lawful in
    let chips = lawful.chips in
    omega arith

-- The first street of a hand that starts lawfully begins as a street may.
pub right-first : (start : HandStart) → IsLawfulStart start → IsStreetStart (first_street start)
right-first start lawful =
    let lack = few-lacking start lawful in
    let stacks = few-stacks start lawful in
    let big = lawful-big start lawful in
    let unit = lawful-unit start lawful in
    record {
      seated = seated-by_seat start 10 0;
      chips = omega arith;
      opening = omega arith;
      big = omega arith;
      unit =
          omega arith;
    }
