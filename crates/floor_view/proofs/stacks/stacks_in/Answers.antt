use Rattle.std.proofs.Common.{arith}
use Rattle.std.proofs.lemmas.Grind.{common_steps}
use Rattle.floor_view.proofs.Listed.{more-listed}
use Rattle.floor_view.proofs.stacks.stacks_in.Goals as goal

pub loop-slot-preserved : goal.loop-slot-preserved
loop-slot-preserved c =
    more-listed c.args.slots.now c.loop-slot.slot-index c.slot-item.result c.loop-slot.stacks.items
    c.push_slot.new.stacks.items (omega arith) c.slot-item.is c.loop-slot.invariant c.in_ok-push_slot.ensures

pub returns : goal.returns
returns c = grind (arith, common_steps)
