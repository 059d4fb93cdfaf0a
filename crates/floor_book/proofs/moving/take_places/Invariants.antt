use Rattle.std.proofs.Common.{◌≡◌, drop}
use Rattle.seat_book.specs.Seatings.{IsSeating}
use Rattle.tournament_rules.specs.Moving.{after_all}
use Rattle.floor_book.specs.Moves.{AreFree}
use Rattle.floor_book.proofs.moving.take_places.Given as goal

-- Once the players who are left took the places that are left, all have; those places are free, and the seating is
-- lawful.
abbrev pub invariant-loop-index : goal.invariant-loop-index
invariant-loop-index l = record {
  all : after_all l.table (drop l.index l.names) (drop l.index l.places) l.seats
      ≡ after_all l.table l.names l.places l.initial.seats;
  free : AreFree l.seats (drop l.index l.places);
  lawful : IsSeating l.seats;
  tables : l.seats.table_count ≡ l.initial.seats.table_count;
}
