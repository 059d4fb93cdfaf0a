use Rattle.std.proofs.Common.{arith}
use Rattle.hand_rank.proofs.SetOrder.{ranks-counted}
use Rattle.hand_rank.proofs.rank_set.RankSet.count.Goals as goal

pub returns : goal.returns
returns c = ranks-counted c.args.self.bits (omega arith)
