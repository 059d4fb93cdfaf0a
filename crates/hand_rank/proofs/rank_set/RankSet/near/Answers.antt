use Rattle.std.proofs.Common.{arith}
use Rattle.hand_rank.proofs.RunTable.{near-ranks}
use Rattle.hand_rank.proofs.rank_set.RankSet.near.Goals as goal

pub returns : goal.returns
returns c r within = near-ranks c.args.rank r (omega (arith, c.requires)) within
