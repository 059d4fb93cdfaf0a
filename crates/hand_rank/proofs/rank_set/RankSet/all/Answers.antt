use Rattle.hand_rank.proofs.NearLaws.{near-all}
use Rattle.hand_rank.proofs.rank_set.RankSet.all.Goals as goal

pub returns : goal.returns
returns c = near-all
