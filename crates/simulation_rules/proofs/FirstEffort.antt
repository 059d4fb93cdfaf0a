-- How many steps a simulated tournament may take at most, as it begins.
use Rattle.std.proofs.Common.{◌≡◌, refl, ap, ℕ, zero, suc, ◌+◌, ◌*◌, ◌≤◌, true, false, get_or, arith}
use Rattle.std.specs.Prelude.{if◌then◌else◌, replicate, Bool, Option, option_map}
use Rattle.std.proofs.lemmas.List.{length-replicate}
use Rattle.std.proofs.lemmas.List.Sums.{count_by-le-length}
use Rattle.std.proofs.lemmas.Nat.{mul-le}
use Rattle.level_plan.specs.Plans.{PlanTerms, is_right}
use Rattle.seat_book.specs.Tables.{fresh_status}
use Rattle.table_engine.specs.declared.start.HandStart.{HandStart}
use Rattle.tournament_rules.specs.Checks.{is_playing}
use Rattle.tournament_rules.specs.Effects.{first_book, first_status}
use Rattle.tournament_rules.specs.States.{acts_at, first_play, hand_at}
use Rattle.tournament_rules.specs.Units.{is_due}
use Rattle.tournament_rules.proofs.Entries.{right_has, start_none, valid_first}
use Rattle.simulation_rules.proofs.OwedOrders.{orders-few}
use Rattle.simulation_rules.specs.Effort.{effort_in_play, effort_of_entries, effort_of_hand, effort_of_hands, effort_of_levels, effort_of_orders, effort_of_places, most_acts, most_chips}
use Rattle.simulation_rules.specs.Places.{first_place}

-- At no table a hand is played.
pub none_plays : (plan : PlanTerms) (table : ℕ) → is_playing (first_book plan) table ≡ false
none_plays plan zero = refl
none_plays plan (suc below) = of_many plan.tables below
  where
    of_many : (count below : ℕ) → (get_or (replicate count (first_status plan)) below fresh_status).playing ≡ false
    of_many zero below = refl
    of_many (suc count) zero = refl
    of_many (suc count) (suc below) = of_many count below

few_seats : (tables seats : ℕ) → tables ≤ 64 → seats ≤ 10 → tables * seats ≤ 640
few_seats tables seats few small = mul-le tables seats 64 10 few small

few_entries : (plan : PlanTerms) → is_right plan ≡ true → effort_of_entries (first_book plan) ≤ 8320000
few_entries plan right =
    let has = right_has plan right in
    let few = few_seats plan.tables plan.seats has.most_tables has.most_seats in
    omega (arith, few)

few_orders : (plan : PlanTerms) → is_right plan ≡ true → effort_of_orders (first_book plan).seating ≤ 416064
few_orders plan right = orders-few (first_book plan).seating (valid_first plan right).tables.lawful

few_levels : (plan : PlanTerms) → is_right plan ≡ true → effort_of_levels (first_book plan) ≤ 2664
unfolding effort_of_levels
few_levels plan right =
    let has = right_has plan right in
    let levels = has.level_count in
    let tables = has.most_tables in
    let due = count_by-le-length is_due (replicate plan.tables (first_status plan)) in
    let size = length-replicate plan.tables (first_status plan) in
    omega (arith, levels, tables, due, size)

few_hands : (plan : PlanTerms) → is_right plan ≡ true
    → effort_of_hands (first_book plan) ≤ 20000 * 26240000000117
unfolding effort_of_hands most_acts most_chips
few_hands plan right = let most = (right_has plan right).most_tables in omega (arith, most)

few_places : (plan : PlanTerms) → is_right plan ≡ true → effort_of_places (first_book plan) first_place ≤ 64
few_places plan right =
    let most = (right_has plan right).most_tables in
    let none = ap (λ (plays : Bool). if plays then plan.tables + 1 else 0) (none_plays plan 1) in
    omega (arith, most, none)

no_hand : (plan : PlanTerms) → effort_of_hand (hand_at (first_play plan) 1) ≡ 0
no_hand plan =
    ap (λ (start : Option HandStart). effort_of_hand
    (option_map (λ start. record { start = start; acts = acts_at (first_play plan).acts 1 }) start))
    (start_none (plan.tables + 1) 1)

-- A simulated tournament begins with fewer steps to come than 2 to the power of 59.
pub few_steps : (plan : PlanTerms) → is_right plan ≡ true
    → effort_in_play (first_play plan) first_place ≤ 576460752303423488
unfolding effort_in_play
few_steps plan right =
    let entries = few_entries plan right in
    let orders = few_orders plan right in
    let levels = few_levels plan right in
    let hands = few_hands plan right in
    let hand = no_hand plan in
    let places = few_places plan right in
    omega (arith, entries, orders, levels, hands, hand, places)
