use Rattle.seat_book.proofs.Calls.{place-read}
use Rattle.seat_book.proofs.seat_book.SeatBook.find.Goals as goal

pub returns-clause-within : goal.returns-clause-within
returns-clause-within c = rw (← c.self.view_is) (place-read c.self.invariant c.args.player c.index.result.now
    c.requires c.index.ensures)
