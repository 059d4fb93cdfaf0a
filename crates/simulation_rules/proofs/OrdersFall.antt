-- Each order leaves fewer orders to come.
use Rattle.std.proofs.Common.{◌≡◌, ◌≢◌, ◌∙◌, ap, ℕ, ◌<◌, true, false, List, arith}
use Rattle.std.specs.Prelude.{count_by}
use Rattle.std.proofs.lemmas.Bool.{and_parts, both_ways, ltb-false}
use Rattle.seat_book.specs.declared.place.Place.{Place}
use Rattle.seat_book.specs.Counts.{count_at, is_open, table_numbers}
use Rattle.seat_book.specs.Seatings.{Seating, IsSeating}
use Rattle.balance_rule.specs.declared.balance.Move.{Move}
use Rattle.balance_rule.specs.Balance.{after_move}
use Rattle.balance_rule.specs.Moves.{Balance, IsLawfulMove}
use Rattle.balance_rule.proofs.Balances.{others-same}
use Rattle.floor_director.proofs.Spreading.{spread-narrows}
use Rattle.tournament_rules.specs.Books.{BookState, has_table}
use Rattle.tournament_rules.specs.Effects.{broken}
use Rattle.tournament_rules.specs.Valid.{IsValid}
use Rattle.tournament_rules.proofs.Breaks.{MayBreak}
use Rattle.tournament_rules.proofs.Fitting.{table_range}
use Rattle.simulation_rules.specs.Effort.{effort_of_orders}
use Rattle.simulation_rules.proofs.AfterBreak.{nobody-broken, none-broken, tables-broken}
use Rattle.simulation_rules.proofs.OpenTables.{open-closed, open-kept, orders-least, orders-most, orders-narrow}

-- A lawful balance leaves fewer orders to come.
pub orders-balanced : (seating : Seating) (from to : ℕ) (move_ : Move) → IsSeating seating
    → IsLawfulMove seating (Balance from to move_)
    → effort_of_orders (after_move move_ seating) < effort_of_orders seating
orders-balanced seating from to move_ valid lawful =
    orders-narrow seating (after_move move_ seating)
    (open-kept seating.table_count seating.players (after_move move_ seating).players shut)
    (spread-narrows seating from to move_ valid lawful)
  where
    apart : (table other : ℕ) → is_open seating.players table ≡ true → is_open seating.players other ≡ false
        → other ≢ table
    apart table other opened closed =
        λ same. both_ways (is_open seating.players other) closed (ap (is_open seating.players) same ∙ opened)

    shut : (other : ℕ) → is_open seating.players other ≡ false
        → count_at (after_move move_ seating).players other ≡ 0
    shut other closed =
        let none = ltb-false 0 (count_at seating.players other) closed in
        let same = others-same seating from to move_ valid lawful other
        (apart from other lawful.lawful.free.opened closed) (apart to other lawful.lawful.opened closed) in
        omega (arith, none, same)

-- A break leaves fewer orders to come.
pub orders-broken : (book : BookState) (table : ℕ) (places : List Place) (names : List (List ℕ)) → IsValid book
    → MayBreak book table places names → IsSeating (broken book table places names).seating
    → effort_of_orders (broken book table places names).seating < effort_of_orders book.seating
orders-broken book table places names valid may lawful =
    let after = (broken book table places names).seating in
    let opened = and_parts (has_table book table) (is_open book.seating.players table) may.opened in
    let range = table_range 1 book.plan.tables table opened.0 in
    let tables = valid.tables.tables in
    let fewer = open-closed book.seating.table_count table book.seating.players after.players range.0
    (omega (arith, range.1, tables)) opened.1 (nobody-broken book table places names valid may)
    (none-broken book table places names valid may) in
    let counted = ap (λ (number : ℕ). count_by (is_open after.players) (table_numbers number))
    (tables-broken book table places names valid may) in
    let most = orders-most after lawful in
    let least = orders-least book.seating in
    omega (arith, fewer, counted, most, least)
