use Rattle.place_list.proofs.Sums.{over-sum}
use Rattle.place_list.proofs.laws.all_prizes_sum_to_the_pool.Goals as goal

pub returns : goal.returns
returns c = over-sum
