use Rattle.low_rank.proofs.ChangeLaws.{low-renamed}
use Rattle.low_rank.proofs.laws.suits_do_not_count.Goals as goal

pub returns : goal.returns
returns c = low-renamed
