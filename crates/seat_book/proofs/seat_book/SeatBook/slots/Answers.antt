use Rattle.seat_book.proofs.Keeping.{IsSeating-kept}
use Rattle.seat_book.proofs.seat_book.SeatBook.slots.Goals as goal

pub returns-clause-lawful : goal.returns-clause-lawful
returns-clause-lawful c = rw (← c.self.view_is) (IsSeating-kept c.self.inside.hands c.self.invariant)
