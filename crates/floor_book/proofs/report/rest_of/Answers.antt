use Rattle.std.proofs.Common.{None, arith}
use Rattle.std.proofs.lemmas.List.Sums.{sum_by_more_le}
use Rattle.std.proofs.lemmas.Grind.{common_steps}
use Rattle.floor_book.proofs.SlotSums.{stack_in, stacks_in-slots}
use Rattle.floor_book.proofs.report.rest_of.Goals as goal

pub overflow_add-chips : goal.overflow_add-chips
overflow_add-chips c =
    let here = sum_by_more_le stack_in c.args.slots.now c.loop-slot.slot-index None c.loop-slot-test.true in
    grind (arith, common_steps, here, stacks_in-slots c.args.slots.now)

pub returns : goal.returns
returns c = grind (arith, common_steps, stacks_in-slots c.args.slots.now)
