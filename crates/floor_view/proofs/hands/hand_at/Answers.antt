use Rattle.std.proofs.Common.{◌<◌, sym, arith}
use Rattle.floor_view.proofs.PlayedAt.{none-played, number-found}
use Rattle.floor_view.proofs.hands.hand_at.Goals as goal

pub returns-then-table-from-clause-hand : goal.returns-then-table-from-clause-hand
returns-then-table-from-clause-hand c =
    let book = c.in-Some.book.now in
    let above : book.seating.table_count < c.args.table = rw (← c.seats.ensures.seats) (omega arith) in
    sym (none-played c.args.tournament.now book c.args.table c.in-Some.ensures.book c.seats.ensures.lawful above)

pub returns-clause-here : goal.returns-clause-here
returns-clause-here c =
    number-found c.args.tournament.now c.in-Some.book.now c.args.table c.hand.result c.in-Some.ensures.book
    c.seats.ensures.lawful c.hand.ensures.hand
