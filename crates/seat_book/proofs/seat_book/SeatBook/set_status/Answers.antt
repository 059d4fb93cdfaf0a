use Rattle.seat_book.proofs.Keeping.{IsSeating-kept}
use Rattle.seat_book.proofs.Calls.{status-keeps}
use Rattle.seat_book.proofs.seat_book.SeatBook.set_status.Goals as goal

pub invariant_of-self : goal.invariant_of-self
invariant_of-self c =
    let requires = rw (← c.self.view_is) at c.requires in
    status-keeps c.self.invariant c.args.table c.table_index.result requires.table c.table_index.ensures c.args.status
    requires.status

pub returns-clause-lawful : goal.returns-clause-lawful
returns-clause-lawful c =
    let requires = rw (← c.self.view_is) at c.requires in
    IsSeating-kept c.self.inside.hands (status-keeps c.self.invariant c.args.table c.table_index.result requires.table
    c.table_index.ensures c.args.status requires.status)
