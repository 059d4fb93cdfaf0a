use Rattle.place_list.proofs.Sums.{out-sum}
use Rattle.place_list.proofs.laws.prizes_of_those_who_are_out_are_within_the_pool.Goals as goal

pub returns : goal.returns
returns c = out-sum
