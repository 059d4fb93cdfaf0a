use Rattle.std.proofs.Common.{arith}
use Rattle.std.proofs.lemmas.Grind.{common_steps}
use Rattle.floor_view.proofs.stacks.stacks_of_hand.Goals as goal

pub loop-player-preserved : goal.loop-player-preserved
loop-player-preserved c = grind (arith, common_steps)

pub returns : goal.returns
returns c = grind (arith, common_steps)

pub stack_now-requires : goal.stack_now-requires
stack_now-requires c = grind (arith, common_steps)
