use Rattle.std.proofs.Common.{arith}
use Rattle.std.proofs.lemmas.Grind.{common_steps}
use Rattle.hand_rank.proofs.five_cards.count_ranks.Goals as goal

pub overflow_add-counts : goal.overflow_add-counts
overflow_add-counts c = grind (arith, common_steps)

pub returns : goal.returns
returns c = grind (arith, common_steps)
