use Rattle.seat_book.proofs.Calls.{status-read}
use Rattle.seat_book.proofs.seat_book.SeatBook.status.Goals as goal

pub returns-clause-lawful : goal.returns-clause-lawful
returns-clause-lawful c =
    let requires = rw (← c.self.view_is) at c.requires in
    let status = status-read c.self.invariant c.args.table c.table_index.result requires c.table_index.ensures
    c.index.result.now c.index.ensures in
    rw (← c.self.view_is, status) (c.self.invariant.lawful c.args.table)
