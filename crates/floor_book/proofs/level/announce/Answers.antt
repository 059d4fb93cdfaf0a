use Rattle.std.proofs.Common.{◌≡◌, ◌∙◌, ◌<◌, ap, length, arith}
use Rattle.seat_book.specs.Seatings.{Seating}
use Rattle.floor_book.proofs.Announced.{announced-none, announced-count, announced-next, announced-all}
use Rattle.floor_book.proofs.level.announce.Goals as goal

pub loop-below-init : goal.loop-below-init
loop-below-init c = announced-none c.args.unit c.args.seats.now

pub announce_at_table-requires-clause-table : goal.announce_at_table-requires-clause-table
announce_at_table-requires-clause-table c =
    let count = ap (λ (seats : Seating). seats.table_count) c.loop-below.invariant
    ∙ announced-count c.args.unit c.args.seats.now c.loop-below.below in
    record {
      first = omega arith;
      last = omega (arith, c.loop-below-test.true, c.table_count-below-end.ensures.tables, count);
    }

pub loop-below-preserved : goal.loop-below-preserved
loop-below-preserved c =
    let within : c.loop-below.below < length c.args.seats.now.tables = omega (
      arith,
      c.loop-below-test.true,
      c.table_count-below-end.ensures.tables,
      c.table_count-below-end.ensures.lawful.tables,
    ) in
    announced-next c.args.unit c.args.seats.now c.loop-below.seats c.announce_at_table.new.seats c.loop-below.below within
    c.loop-below.invariant c.announce_at_table.ensures

pub returns : goal.returns
returns c =
    let all : c.loop-below.below ≡ length c.args.seats.now.tables = omega (
      arith,
      c.table_count-below-end.ensures.tables,
      c.table_count-below-end.ensures.lawful.tables,
    ) in
    announced-all c.args.unit c.args.seats.now c.loop-below.seats c.loop-below.below all c.loop-below.invariant
