use Rattle.std.proofs.Common.{◌≡◌, take}
use Rattle.seat_book.specs.Players.{players_in}
use Rattle.floor_book.specs.Seats.{dealt_of}
use Rattle.floor_book.proofs.begin.dealt_seats.Given as goal

abbrev pub invariant-loop-slot : goal.invariant-loop-slot
invariant-loop-slot l = l.seats ≡ dealt_of l.waiting (players_in (take l.slot-index l.slots))
