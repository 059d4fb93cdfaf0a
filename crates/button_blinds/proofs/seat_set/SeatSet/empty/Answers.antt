use Rattle.button_blinds.proofs.SeatSetLaws.{AreSeatsOf-no_seats}
use Rattle.button_blinds.proofs.seat_set.SeatSet.empty.Goals as goal

pub returns-clause-table : goal.returns-clause-table
returns-clause-table c = λ seats. AreSeatsOf-no_seats seats
