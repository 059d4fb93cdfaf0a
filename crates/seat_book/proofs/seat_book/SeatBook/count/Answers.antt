use Rattle.seat_book.proofs.Keeping.{count-kept}
use Rattle.seat_book.proofs.seat_book.SeatBook.count.Goals as goal

pub returns-clause-most : goal.returns-clause-most
returns-clause-most c =
    let requires = rw (← c.self.view_is) at c.requires in
    let counted = count-kept c.table_index.result c.index.result.now c.self.invariant requires c.table_index.ensures
    c.index.ensures in
    rw (← c.self.view_is) counted.2
