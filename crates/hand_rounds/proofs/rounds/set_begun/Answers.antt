use Rattle.std.proofs.Common.{◌≡◌, ◌∙◌, ◌<◌, ap, length, arith}
use Rattle.seat_book.specs.Seatings.{Seating}
use Rattle.hand_rounds.specs.Rounds.{begins_with}
use Rattle.hand_rounds.proofs.Passed.{one-more-seating}
use Rattle.hand_rounds.proofs.rounds.set_begun.Goals.{then-playing, else-playing}
use Rattle.hand_rounds.proofs.rounds.set_begun.Goals as goal

pub loop-below-preserved : goal.loop-below-preserved
loop-below-preserved c =
    let first = c.args.book.now in
    let lawful = c.table_count-below-end.ensures.lawful in
    let count = ap (λ (seating : Seating). seating.table_count) c.loop-below.invariant.same in
    let within : c.loop-below.below < length first.tables = omega (
      arith,
      c.loop-below-test.true,
      c.table_count-below-end.ensures.tables,
      lawful.tables,
    ) in
    let inside : c.loop-below.below < length c.loop-below.book.tables = omega (
      arith,
      c.loop-below-test.true,
      c.table_count-below-end.ensures.tables,
      count,
      c.loop-below.invariant.lawful.tables,
    ) in
    let begun : c.if-playing.begun ≡ begins_with c.args.playing c.status-status.result = elim c.if-playing.branch [
      | then-playing w ↦ rw w.if-playing.true w.begun-is
      | else-playing w ↦ rw w.if-playing.false (w.begun-is ∙ w.if-playing.false)
    ] in
    record {
      same = one-more-seating (begins_with c.args.playing) first c.loop-below.book c.set_status.new.self
          c.loop-below.below
          c.status-status.result c.if-playing.begun within inside c.loop-below.invariant.same
          c.status-status.ensures.status begun c.set_status.ensures.same;
      lawful = c.set_status.ensures.lawful;
    }
