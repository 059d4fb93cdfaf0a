use Rattle.std.proofs.Common.{◌<◌, sym, arith}
use Rattle.floor_view.proofs.Listed.{none-above, none-below}
use Rattle.floor_view.proofs.stacks.slots_at.Goals as goal

pub returns-then-table-eq0 : goal.returns-then-table-eq0
returns-then-table-eq0 c =
    sym (none-below c.args.seats.now c.args.table c.table_count.ensures.lawful c.if-table-eq0.true)

pub returns-then-table-count : goal.returns-then-table-count
returns-then-table-count c =
    let above : c.args.seats.now.table_count < c.args.table = omega arith in
    sym (none-above c.args.seats.now c.args.table c.table_count.ensures.lawful above)
