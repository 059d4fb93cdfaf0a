use Rattle.std.proofs.Common.{◌≡◌, Some}
use Rattle.seat_book.specs.Counts.{count_at, table_numbers}
use Rattle.seat_book.specs.Places.{IsTableOf}
use Rattle.balance_rule.specs.Filling.{lowest_table}
use Rattle.floor_simulation.proofs.entrants.table_to_enter.Given as goal

-- It is the lowest of the tables that were looked at.
abbrev pub invariant-loop-below : goal.invariant-loop-below
invariant-loop-below l = record {
  lowest : lowest_table (count_at l.seats.players) (table_numbers l.below) ≡ Some l.lowest;
  within : IsTableOf l.seats.table_count l.lowest;
}
