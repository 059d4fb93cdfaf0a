use Rattle.std.proofs.Common.{arith}
use Rattle.std.proofs.lemmas.Bool.Decides.{nat_tests}
use Rattle.hand_rank.proofs.SetOrder.{ranks-empty, ranks-some}
use Rattle.hand_rank.proofs.rank_set.RankSet.is_empty.Goals as goal

pub returns-clause-none : goal.returns-clause-none
returns-clause-none c is = ranks-empty c.args.self.bits (grind (arith, nat_tests, is))

pub returns-clause-some : goal.returns-clause-some
returns-clause-some c fails = ranks-some c.args.self.bits (grind (arith, nat_tests, fails)) (omega arith)
