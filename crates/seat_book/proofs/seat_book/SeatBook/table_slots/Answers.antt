use Rattle.std.proofs.Common.{◌≡◌, ◌*◌, ◌+◌, ◌-◌, arith}
use Rattle.seat_book.proofs.Keeping.{IsSeating-kept}
use Rattle.seat_book.proofs.Rows.{players_in-row}
use Rattle.seat_book.proofs.seat_book.SeatBook.table_slots.Goals as goal

pub returns-clause-players : goal.returns-clause-players
returns-clause-players c =
    let requires = rw (← c.self.view_is) at c.requires in
    let seats : c.table_index.result * c.from-seats.result + c.from-seats.result - c.table_index.result *
    c.from-seats.result ≡ c.from-seats.result = omega arith in
    rw (← c.self.view_is, seats, c.deref.ensures.value, c.table_index.ensures, c.from-seats.ensures)
    (players_in-row c.self.inside.table_count c.self.inside.seat_count c.args.table c.self.inside.slots.items
    c.self.invariant.stand c.self.invariant.room requires)

pub returns-clause-lawful : goal.returns-clause-lawful
returns-clause-lawful c = rw (← c.self.view_is) (IsSeating-kept c.self.inside.hands c.self.invariant)
