use Rattle.std.proofs.Common.{◌≡◌}
use Rattle.seat_book.specs.Seatings.{empty_seating}
use Rattle.floor_book.proofs.Opened.{set_up}
use Rattle.floor_book.proofs.book.first_seats.Given as goal

abbrev pub invariant-loop-below : goal.invariant-loop-below
invariant-loop-below l =
    l.seats ≡ record (empty_seating l.fn.plan.tables l.fn.plan.seats) { tables = set_up l.fn.plan l.below }
