use Rattle.std.proofs.Common.{◌<◌, sym, arith}
use Rattle.book_dock.proofs.Nobody.{nobody-there, none-above, none-zero}
use Rattle.book_dock.proofs.order.slots_at.Goals as goal

pub returns-then-table-eq0-clause-players : goal.returns-then-table-eq0-clause-players
returns-then-table-eq0-clause-players c =
    sym (nobody-there c.args.seats.now c.args.table c.table_count.ensures.lawful
    (none-zero c.args.seats.now.table_count c.args.table c.if-table-eq0.true))

pub returns-then-table-count-clause-players : goal.returns-then-table-count-clause-players
returns-then-table-count-clause-players c =
    let above : c.args.seats.now.table_count < c.args.table = omega arith in
    sym (nobody-there c.args.seats.now c.args.table c.table_count.ensures.lawful
    (none-above c.args.seats.now.table_count c.args.table above))
