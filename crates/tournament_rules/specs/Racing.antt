-- What a level with a greater unit and a chip race make of the tables and of the players. When a race is pending where
-- is this project's own; the race itself, with its protection, is that of the Poker TDA Rules and Robert's Rules of
-- Poker.
use Rattle.std.specs.Prelude.{ℕ, suc, ◌-◌, Bool, if◌then◌else◌, List, map, slice_index_or, unwrap_or, Some, None}
use Rattle.std.specs.List.{enumerate_from}
use Rattle.std.specs.Option.{option_map_or}
use Rattle.rulebook.specs.Seats.{walk}
use Rattle.card_set.specs.declared.card.Card.{Card}
use Rattle.chip_race.specs.declared.race_result.RaceResult.{RaceResult}
use Rattle.chip_race.specs.Races.{race_result}
use Rattle.seat_book.specs.declared.place.Place.{Place}
use Rattle.seat_book.specs.declared.seated.Seated.{Seated}
use Rattle.seat_book.specs.declared.table_status.TableStatus.{TableStatus}
use Rattle.seat_book.specs.Players.{sits_at, player_at}
use Rattle.seat_book.specs.Counts.{is_open}
use Rattle.seat_book.specs.Tables.{status_at}
use Rattle.seat_book.specs.Seatings.{Seating}
use Rattle.tournament_rules.specs.Players.{with_rest}

-- a table once a level with a greater unit is current: where it is open a race to that unit is pending, and else it has
-- that unit at once and no race
abbrev pub announced_table : ℕ → Bool → TableStatus → TableStatus
announced_table unit opened status =
    if opened then record status { race = Some unit } else record status { unit = unit; race = None }

-- all tables then, by number
abbrev pub announced : ℕ → Seating → Seating
announced unit seating = record seating {
  tables = map (λ row. announced_table unit (is_open seating.players row.0) row.1) (enumerate_from 1 seating.tables);
}

-- the unit that a table has after its race: the new one, where a race is pending, and else its own
abbrev pub unit_after : TableStatus → ℕ
unit_after status = unwrap_or status.race status.unit

-- a table after its race
abbrev pub raced_off : TableStatus → TableStatus
raced_off status = record status { unit = unit_after status; race = None }

-- the stack in a place, and 0 where nobody sits
abbrev pub stack_in : List Seated → Place → ℕ
stack_in players place = option_map_or (λ player. player.stack) (player_at players place) 0

-- the stacks in the ten seats of a table, index 0 for seat 1
abbrev pub stacks_at : List Seated → ℕ → List ℕ
stacks_at players table = map (λ seat. stack_in players (record { table = table; seat = seat })) (walk suc 10 0)

-- the race at a table with these cards, from its unit to the new one
abbrev pub race_at : Seating → ℕ → List Card → RaceResult
race_at seating table cards =
    let status = status_at seating.tables table in
    race_result (stacks_at seating.players table) status.unit (unit_after status) cards

-- a player once the stacks in the seats of a table are these
abbrev pub restacked : ℕ → List ℕ → Seated → Seated
restacked table stacks player =
    if sits_at table player then with_rest player (slice_index_or stacks (player.place.seat - 1) 0) else player
