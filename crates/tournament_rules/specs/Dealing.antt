-- The start of the next hand at a table. The Poker TDA Rules and Robert's Rules of Poker.
use Rattle.std.specs.Prelude.{ℕ, ◌+◌, List}
use Rattle.card_set.specs.declared.card.Card.{Card}
use Rattle.button_blinds.specs.Marks.{marks_after}
use Rattle.button_blinds.specs.declared.marks.NextMarks.{NextMarks}
use Rattle.seat_book.specs.Players.{taken_seats}
use Rattle.seat_book.specs.Tables.{status_at}
use Rattle.table_engine.specs.declared.start.HandStart.{HandStart}
use Rattle.tournament_rules.specs.Books.{BookState, blind_now}
use Rattle.tournament_rules.specs.Players.{dealt_seats}

-- the marks of the next hand at a table, and who waits
abbrev pub next_at : BookState → ℕ → NextMarks
next_at book table =
    marks_after (status_at book.seating.tables table).marks (taken_seats book.seating.players table) book.plan.seats

-- The start of the next hand at a table: the next serial, the marks, the players who are dealt in, and the current
-- level's blinds and unit.
abbrev pub next_start : BookState → ℕ → List Card → HandStart
next_start book table cards = record {
  table = table;
  serial = book.begun + 1;
  seats = dealt_seats table (next_at book table).waiting book.seating.players;
  seat_count = book.plan.seats;
  marks = (next_at book table).marks;
  blind = blind_now book;
  cap = book.plan.cap;
  game = book.plan.game;
  deck = cards;
}
