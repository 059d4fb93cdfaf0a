-- What holds of the tables' units and of pending races at every moment. This project's own.
use Rattle.std.specs.Prelude.{◌≡◌, ◌≤◌, ◌<◌, ℕ, ◌+◌, ◌*◌, ◌%◌, Bool, true, ◌==◌, List, count_by, None, is_some}
use Rattle.std.specs.List.{list_all}
use Rattle.std.specs.Option.{ForSome}
use Rattle.rulebook.specs.Limits.{most_seats, most_tables}
use Rattle.level_plan.specs.Limits.{greatest_amount}
use Rattle.level_plan.specs.Items.{is_between, is_next_unit}
use Rattle.level_plan.specs.Plans.{PlanTerms, unit_of_level}
use Rattle.seat_book.specs.declared.seated.Seated.{Seated}
use Rattle.seat_book.specs.declared.table_status.TableStatus.{TableStatus}
use Rattle.seat_book.specs.Counts.{count_at}
use Rattle.seat_book.specs.Tables.{status_at}

-- A race to a level's unit is from a smaller one, after which it may come next.
pub record IsRaceTo (unit from : ℕ) : Type 0 where
  pub next : is_next_unit from unit ≡ true
  pub greater : from < unit

-- A table has the level's unit, where no race is pending; a pending race is one from its unit to the level's.
pub record IsUnitOf (unit : ℕ) (status : TableStatus) : Type 0 where
  pub own : status.race ≡ None → status.unit ≡ unit
  pub new : ForSome status.race (λ new. new ≡ unit)
  pub from : ForSome status.race (λ new. IsRaceTo new status.unit)

-- whether a player's stack at rest is a multiple of the unit of his table
abbrev pub is_whole_at : List TableStatus → Seated → Bool
is_whole_at tables player = player.stack % (status_at tables player.place.table).unit == 0

-- Each stack at rest is a multiple of the unit of its player's table.
abbrev pub AreWhole : List TableStatus → List Seated → Type 0
AreWhole tables players = list_all (is_whole_at tables) players ≡ true

-- A race is pending only where somebody sits.
abbrev pub AreDue : List TableStatus → List Seated → Type 0
AreDue tables players = (table : ℕ) → ForSome (status_at tables table).race (λ unit. 1 ≤ count_at players table)

-- whether a race is pending at a table that stands so
abbrev pub is_due : TableStatus → Bool
is_due status = is_some status.race

-- the most that a race can add: a chip of the greatest unit in each seat of a table
abbrev pub most_of_race : ℕ
most_of_race = most_seats * greatest_amount

-- the most that the races to the unit of a level can add
abbrev pub most_of_level : ℕ
most_of_level = most_tables * most_of_race

-- The units of the tables are those of the level or on the way to it, and races add little.
pub record AreUnits (plan : PlanTerms) (level added : ℕ) (tables : List TableStatus) (players : List Seated)
    : Type 0 where
  pub units : (table : ℕ) → is_between 1 plan.tables table ≡ true
      → IsUnitOf (unit_of_level plan.blinds level) (status_at tables table)
  pub whole : AreWhole tables players
  pub due : AreDue tables players
  -- what was added, and what the pending races may add
  pub few : added + most_of_race * count_by is_due tables ≤ most_of_level * level
