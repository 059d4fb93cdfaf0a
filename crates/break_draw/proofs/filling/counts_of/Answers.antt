use Rattle.std.proofs.Common.{◌∙◌, length-set, arith}
use Rattle.seat_book.specs.Counts.{count_at}
use Rattle.break_draw.proofs.Counting.{counted-more}
use Rattle.break_draw.proofs.filling.counts_of.Goals as goal

pub loop-below-preserved : goal.loop-below-preserved
loop-below-preserved c = record {
  each = counted-more (count_at c.args.book.now.players) c.loop-below.counts c.loop-below.below c.count.result
      c.from.result
      c.from.ensures c.count.ensures.count
      (omega (
        arith,
        c.loop-below-test.true,
        c.table_count-below-end.ensures.tables,
        c.table_count-below-end.ensures.lawful.most_tables,
        c.loop-below.invariant.size,
      )) c.loop-below.invariant.each;
  size = length-set c.loop-below.counts c.from.result c.count.result ∙ c.loop-below.invariant.size;
}
