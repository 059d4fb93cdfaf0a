use Rattle.std.proofs.Common.{◌≡◌}
use Rattle.low_rank.specs.LowRanks.{without_least}
use Rattle.low_rank.proofs.low_ranks.LowRanks.without_least.Given as goal

abbrev pub invariant-loop : goal.invariant-loop
invariant-loop l = l.bits ≡ without_least l.counter l.fn.self.bits
