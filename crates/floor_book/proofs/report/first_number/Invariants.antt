use Rattle.std.proofs.Common.{◌≡◌, drop}
use Rattle.seat_book.specs.Players.{players_in}
use Rattle.floor_book.proofs.report.first_number.Given as goal

abbrev pub invariant-loop-slot : goal.invariant-loop-slot
invariant-loop-slot l = players_in l.slots ≡ players_in (drop l.slot-index l.slots)
