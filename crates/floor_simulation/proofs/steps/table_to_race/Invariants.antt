use Rattle.std.proofs.Common.{◌≡◌, suc, ◌-◌}
use Rattle.std.specs.Prelude.{find}
use Rattle.rulebook.specs.Seats.{walk}
use Rattle.seat_book.specs.Counts.{table_numbers}
use Rattle.tournament_rules.specs.Checks.{is_race_due}
use Rattle.floor_simulation.proofs.steps.table_to_race.Given as goal

-- Of the tables that are left, the first where a race is pending is that of all.
abbrev pub invariant-loop-below : goal.invariant-loop-below
invariant-loop-below l =
    find (is_race_due l.book) (walk suc (l.book.plan.tables - l.below) l.below)
    ≡ find (is_race_due l.book) (table_numbers l.book.plan.tables)
