use Rattle.std.proofs.Common.{arith}
use Rattle.hand_rank.proofs.SetOrder.{has_rank_minus}
use Rattle.hand_rank.proofs.rank_set.RankSet.minus.Goals as goal

pub returns : goal.returns
returns c r within = has_rank_minus c.args.self.bits c.args.other.bits r (omega arith) within
