-- How the tables stand. This project's own.
use Rattle.std.specs.Prelude.{ℕ, zero, suc, ◌≤◌, false, List, slice_index_or, slice_set, None}
use Rattle.std.specs.Option.{ForSome}
use Rattle.button_blinds.specs.Marks.{AreMarksOf}
use Rattle.seat_book.specs.declared.table_status.TableStatus.{TableStatus}

-- A table at which no hand was played: it has no marks, is not playing, has no race pending and the smallest unit,
-- and has not begun in the round.
abbrev pub fresh_status : TableStatus
fresh_status = record { marks = None; playing = false; race = None; unit = 1; begun = false }

-- How a table stands.
abbrev pub status_at : List TableStatus → ℕ → TableStatus
status_at tables zero = fresh_status
status_at tables (suc below) = slice_index_or tables below fresh_status

-- The tables, with one that stands so.
abbrev pub with_status : List TableStatus → ℕ → TableStatus → List TableStatus
with_status tables zero status = tables
with_status tables (suc below) status = slice_set tables below status

-- What holds of every table: its marks are seats that it has, and its unit, and the new one where a race is pending,
-- is at least one chip.
pub record IsStatusOf (seats : ℕ) (status : TableStatus) : Type 0 where
  pub marks : ForSome status.marks (AreMarksOf seats)
  pub unit : 1 ≤ status.unit
  pub race : ForSome status.race (λ unit. 1 ≤ unit)
