use Rattle.std.proofs.Common.{◌≡◌, take}
use Rattle.button_blinds.specs.SeatSets.{AreSeatsOf}
use Rattle.seat_book.proofs.TakenSeats.{seats_in}
use Rattle.seat_book.proofs.seat_book.SeatBook.occupied.Given as goal

-- The seats that are taken so far are those of the players in the slots so far.
abbrev pub invariant-loop-slot : goal.invariant-loop-slot
invariant-loop-slot l = record {
  taken : l.taken ≡ seats_in (take l.slot-index l.slot-items);
  within : AreSeatsOf l.self.seat_count l.taken;
}
