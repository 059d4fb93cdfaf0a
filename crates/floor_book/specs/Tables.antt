-- What the checks of a table and of two tables tell of their numbers. This project's own.
use Rattle.std.specs.Prelude.{◌≡◌, ℕ, ◌<◌, ◌≤◌, length, Some, IsSome}
use Rattle.seat_book.specs.Places.{IsTableOf}
use Rattle.seat_book.specs.Counts.{count_at}
use Rattle.table_engine.specs.declared.start.HandStart.{HandStart}
use Rattle.tournament_rules.specs.Books.{BookState, start_at}
use Rattle.floor_book.specs.declared.checks.OpenTables.{OpenTables}

-- A hand is played at the table of this number: the book keeps its start, which is that table's.
pub record IsPlayedAt (book : BookState) (table number : ℕ) : Type 0 where
  pub same : number ≡ table
  pub within : number < length book.started
  pub started : IsSome (start_at book.started number)
  pub here : (start : HandStart) → start_at book.started number ≡ Some start → start.table ≡ number

-- Two tables are open: somebody sits at each.
pub record AreOpen (book : BookState) (from to : ℕ) (tables : OpenTables) : Type 0 where
  pub from_is : tables.from ≡ from
  pub to_is : tables.to ≡ to
  pub from_within : IsTableOf book.seating.table_count tables.from
  pub to_within : IsTableOf book.seating.table_count tables.to
  pub from_open : 1 ≤ count_at book.seating.players tables.from
  pub to_open : 1 ≤ count_at book.seating.players tables.to
