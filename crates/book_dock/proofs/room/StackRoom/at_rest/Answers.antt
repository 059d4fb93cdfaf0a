use Rattle.std.proofs.Common.{sym, arith}
use Rattle.seat_book.proofs.MadeOfSlots.{mapped-more}
use Rattle.view_rules.specs.Lines.{stack_at_rest}
use Rattle.book_dock.proofs.room.StackRoom.at_rest.Goals as goal

pub loop-slot-preserved : goal.loop-slot-preserved
loop-slot-preserved c =
    let more = mapped-more stack_at_rest c.args.slots.now c.loop-slot.slot-index c.slot-item.result c.slot-item.result
    c.loop-slot-test.true (sym c.slot-item.is) in
    record {
      made = rw more (rw (← c.loop-slot.invariant.made) c.push_slot.ensures.lines);
      few = omega (arith, c.push_slot.ensures.len);
      room = omega (arith, c.push_slot.ensures.capacity);
    }
