use Rattle.floor_view.proofs.Listed.{nothing-listed}
use Rattle.floor_view.proofs.stacks.push_slot.Goals as goal

pub returns-in-None : goal.returns-in-None
returns-in-None c = nothing-listed c.args.slot c.args.stacks.now.items c.in-None.is
