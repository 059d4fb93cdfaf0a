-- Each entry, order, level and race leaves fewer steps.
use Rattle.std.proofs.Common.{◌≡◌, ◌∙◌, refl, ap, ℕ, zero, suc, ◌+◌, ◌<◌, ◌≤◌, cond, List, [], ◌∷◌, length, arith}
use Rattle.std.specs.Prelude.{nat_lt, count_by, is_some, Option, Some, None}
use Rattle.std.specs.Option.{option_map_or}
use Rattle.std.proofs.lemmas.Bool.{and_parts, cond_both}
use Rattle.std.proofs.lemmas.List.{length-append}
use Rattle.std.proofs.lemmas.List.Sums.{count_by-le-length, sum_by-set}
use Rattle.card_set.specs.declared.card.CardRow.{CardRow}
use Rattle.level_plan.specs.Plans.{unit_of_level}
use Rattle.seat_book.specs.declared.place.Place.{Place}
use Rattle.seat_book.specs.declared.table_status.TableStatus.{TableStatus}
use Rattle.seat_book.specs.Players.{sits_at}
use Rattle.seat_book.specs.Counts.{count_at}
use Rattle.seat_book.specs.Tables.{fresh_status, status_at, with_status}
use Rattle.seat_book.specs.Seatings.{Seating}
use Rattle.balance_rule.specs.declared.balance.Move.{Move}
use Rattle.balance_rule.specs.Balance.{after_move}
use Rattle.tournament_events.specs.declared.event.Event.TheVariants.{Enter, Balance, Break, Level, Race}
use Rattle.tournament_rules.specs.Books.{has_table}
use Rattle.tournament_rules.specs.Effects.{forgotten, newcomer}
use Rattle.tournament_rules.specs.Racing.{announced, race_at, raced_off, restacked}
use Rattle.tournament_rules.specs.States.{PlayState, play_effect, refusal_of}
use Rattle.tournament_rules.specs.Units.{is_due}
use Rattle.tournament_rules.specs.Valid.{IsValidPlay}
use Rattle.tournament_rules.proofs.Balances.{balance_passed}
use Rattle.tournament_rules.proofs.Breaks.{break_passed}
use Rattle.tournament_rules.proofs.Fitting.{table_range}
use Rattle.tournament_rules.proofs.KeptUnits.{keeps-set}
use Rattle.tournament_rules.proofs.Levels.{level_passed}
use Rattle.tournament_rules.proofs.Passed.{passed-parts}
use Rattle.tournament_rules.proofs.Plays.{play_keeps}
use Rattle.tournament_rules.proofs.Races.{race_passed, raced-stacks}
use Rattle.tournament_rules.proofs.Restacked.{count_changed}
use Rattle.tournament_rules.proofs.MoveLaws.{balance_lawful}
use Rattle.simulation_rules.specs.declared.place.SimPlace.{SimPlace}
use Rattle.simulation_rules.specs.Effort.{effort_in_play, effort_of_orders}
use Rattle.simulation_rules.specs.Entrants.{entrants}
use Rattle.simulation_rules.specs.Places.{tables_done}
use Rattle.simulation_rules.proofs.AfterBreak.{statuses-broken}
use Rattle.simulation_rules.proofs.OpenTables.{open-sit_down, orders-fewer, orders-least, orders-most}
use Rattle.simulation_rules.proofs.OrdersFall.{orders-balanced, orders-broken}
use Rattle.simulation_rules.proofs.Parts.{falls_by_parts, hands-same, left_in_play, levels-raced, levels-rose, levels-same, places-same, still-playing}

-- An entry leaves fewer steps.
pub falls-enter : (play : PlayState) (place : SimPlace) (name : List ℕ) (table seat : ℕ) → IsValidPlay play
    → length play.book.entries < entrants play.book.plan → refusal_of play (Enter name table seat) ≡ None
    → left_in_play (play_effect play (Enter name table seat)) place < effort_in_play play place
falls-enter play place name table seat valid few none =
    let later : PlayState = play_effect play (Enter name table seat) in
    let after = play_keeps play (Enter name table seat) valid none in
    let more = length-append play.book.entries (name ∷ []) in
    let opens = open-sit_down play.book.seating.table_count (newcomer play.book name table seat)
    play.book.seating.players in
    let most = orders-most later.book.seating after.book.tables.lawful in
    let least = orders-least play.book.seating in
    let levels = levels-same later.book play.book refl refl refl in
    let hands = hands-same later.book play.book refl refl in
    falls_by_parts play later place place (omega (arith, few, more, opens, most, least, levels, hands))

-- A balance leaves fewer steps.
pub falls-balance : (play : PlayState) (place : SimPlace) (from to : ℕ) → IsValidPlay play
    → refusal_of play (Balance from to) ≡ None
    → left_in_play (play_effect play (Balance from to)) place < effort_in_play play place
falls-balance play place from to valid none =
    let later : PlayState = play_effect play (Balance from to) in
    let after = play_keeps play (Balance from to) valid none in
    let seating = play.book.seating in
    let free = (passed-parts play (Balance from to) none).0 in
    let moves = balance_lawful play.book from to valid.book (balance_passed play.book from to free) in
    let seats : later.book.seating ≡ after_move moves.0 seating =
    ap (λ (found : Option Move). option_map_or (λ move_. after_move move_ seating) found seating)
    moves.1.lawful.carried in
    let orders = orders-balanced seating from to moves.0 valid.book.tables.lawful moves.1 in
    let same = ap effort_of_orders seats in
    let levels = levels-same later.book play.book refl refl
    (ap (λ (seating : Seating). count_by is_due seating.tables) seats) in
    let hands = hands-same later.book play.book refl refl in
    let places = places-same later.book play.book place refl
    (still-playing later.book play.book after.book valid.book refl place.table) in
    falls_by_parts play later place place (omega (arith, orders, same, levels, hands, places))

-- A break leaves fewer steps.
pub falls-break : (play : PlayState) (place : SimPlace) (table : ℕ) (seats : List Place) (names : List (List ℕ))
    → IsValidPlay play → refusal_of play (Break table seats names) ≡ None
    → left_in_play (play_effect play (Break table seats names)) place < effort_in_play play place
falls-break play place table seats names valid none =
    let later : PlayState = play_effect play (Break table seats names) in
    let after = play_keeps play (Break table seats names) valid none in
    let seating = play.book.seating in
    let free = (passed-parts play (Break table seats names) none).0 in
    let may = break_passed play.book table seats names free in
    let orders = orders-broken play.book table seats names valid.book may after.book.tables.lawful in
    let opened = and_parts (has_table play.book table) (nat_lt 0 (count_at seating.players table)) may.opened in
    let range = table_range 1 play.book.plan.tables table opened.0 in
    let count = valid.book.tables.tables in
    let size = valid.book.tables.lawful.tables in
    let kept = keeps-set seating.tables table (forgotten (status_at seating.tables table)) range.0
    (omega (arith, range.1, count, size)) refl refl in
    let levels = levels-same later.book play.book refl refl
    (ap (count_by is_due) (statuses-broken play.book table seats names valid.book may) ∙ kept.due) in
    let hands = hands-same later.book play.book refl refl in
    let places = places-same later.book play.book place refl
    (still-playing later.book play.book after.book valid.book refl place.table) in
    falls_by_parts play later place place (omega (arith, orders, levels, hands, places))

-- A level leaves fewer steps.
pub falls-level : (play : PlayState) (place : SimPlace) → IsValidPlay play → refusal_of play Level ≡ None
    → left_in_play (play_effect play Level) (tables_done place) < effort_in_play play place
falls-level play place valid none =
    let later : PlayState = play_effect play Level in
    let after = play_keeps play Level valid none in
    let seating = play.book.seating in
    let unit = unit_of_level play.book.plan.blinds (play.book.level + 1) in
    let may = level_passed play.book (passed-parts play Level none).0 in
    let orders = cond_both {A = Seating} (nat_lt (unit_of_level play.book.plan.blinds play.book.level) unit)
    (announced unit seating) seating (λ next. effort_of_orders next ≤ effort_of_orders seating)
    (λ greater. orders-fewer seating (announced unit seating) refl (λ table. omega arith))
    (λ same. omega arith) in
    let due = count_by-le-length is_due later.book.seating.tables in
    let size = after.book.tables.lawful.tables in
    let most = after.book.tables.lawful.most_tables in
    let levels = levels-rose later.book play.book refl refl may.further (omega (arith, due, size, most)) in
    let hands = hands-same later.book play.book refl refl in
    let places = places-same later.book play.book place refl
    (still-playing later.book play.book after.book valid.book refl place.table) in
    falls_by_parts play later place (tables_done place) (omega (arith, orders, levels, hands, places))

-- One race fewer is pending once one was made.
due-raced : (tables : List TableStatus) (table unit : ℕ) → 1 ≤ table → table ≤ length tables
    → (status_at tables table).race ≡ Some unit
    → count_by is_due (with_status tables table (raced_off (status_at tables table))) + 1 ≡ count_by is_due tables
due-raced tables zero unit first last due = absurd (omega (arith, first))
due-raced tables (suc below) unit first last due =
    let sum = sum_by-set (λ (s : TableStatus). cond {A = ℕ} (is_due s) 1 0) tables below
    (raced_off (status_at tables (suc below))) fresh_status (omega (arith, last)) in
    let one = ap (λ (race : Option ℕ). cond {A = ℕ} (is_some race) 1 0) due in
    omega (arith, sum, one)

-- A race leaves fewer steps.
pub falls-race : (play : PlayState) (place : SimPlace) (table : ℕ) (row : CardRow) → IsValidPlay play
    → refusal_of play (Race table row) ≡ None
    → left_in_play (play_effect play (Race table row)) place < effort_in_play play place
falls-race play place table row valid none =
    let later : PlayState = play_effect play (Race table row) in
    let after = play_keeps play (Race table row) valid none in
    let seating = play.book.seating in
    let may = race_passed play.book table row (passed-parts play (Race table row) none).0 in
    let opened = and_parts (has_table play.book table) (nat_lt 0 (count_at seating.players table)) may.opened in
    let range = table_range 1 play.book.plan.tables table opened.0 in
    let count = valid.book.tables.tables in
    let size = valid.book.tables.lawful.tables in
    let stacks = (race_at seating table row.cards).stacks in
    let orders = orders-fewer seating later.book.seating refl (λ number.
    let same = count_changed (sits_at number) (restacked table stacks) (record { same = λ player stack. refl })
    (raced-stacks table stacks) seating.players in
    omega (arith, same)) in
    let levels = levels-raced later.book play.book refl refl
    (due-raced seating.tables table may.unit range.0 (omega (arith, range.1, count, size)) may.due) in
    let hands = hands-same later.book play.book refl refl in
    let places = places-same later.book play.book place refl
    (still-playing later.book play.book after.book valid.book refl place.table) in
    falls_by_parts play later place place (omega (arith, orders, levels, hands, places))
