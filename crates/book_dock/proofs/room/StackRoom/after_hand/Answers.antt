use Rattle.std.proofs.Common.{arith}
use Rattle.std.proofs.lemmas.Grind.{common_steps}
use Rattle.book_dock.proofs.room.StackRoom.after_hand.Goals as goal

pub loop-player-preserved : goal.loop-player-preserved
loop-player-preserved c = grind (arith, common_steps)

pub push_reserved-requires : goal.push_reserved-requires
push_reserved-requires c = grind (arith, common_steps)

pub returns : goal.returns
returns c = grind (arith, common_steps)
