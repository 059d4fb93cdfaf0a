use Rattle.std.proofs.Common.{rules}
use Rattle.floor_view.proofs.stacks.stack_now.Goals as goal

pub returns : goal.returns
returns c = search rules
