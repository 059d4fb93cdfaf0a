-- At most 64 shares of at most 1000 each sum to less than a number's limit.
use Rattle.std.proofs.Common.{arith}
use Rattle.std.proofs.lemmas.Bool.Decides.{nat_tests}
use Rattle.level_plan.proofs.Levels.{sum_of_thousandths}
use Rattle.level_plan.proofs.checks.are_shares.Goals as goal

pub is_within_pool-requires : goal.is_within_pool-requires
is_within_pool-requires c = grind (arith, nat_tests, sum_of_thousandths c.args.shares.now)
