use Rattle.std.proofs.Common.{arith}
use Rattle.hand_rank.proofs.SetOrder.{lowest-left}
use Rattle.hand_rank.proofs.rank_set.RankSet.without_lowest.Goals as goal

pub returns : goal.returns
returns c = lowest-left c.args.self.bits (omega arith)
