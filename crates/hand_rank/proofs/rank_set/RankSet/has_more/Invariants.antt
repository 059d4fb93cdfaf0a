use Rattle.std.proofs.Common.{◌≡◌, ◌-◌, length}
use Rattle.hand_rank.specs.Sets.{ranks_of}
use Rattle.hand_rank.proofs.rank_set.RankSet.has_more.Given as goal

abbrev pub invariant-loop : goal.invariant-loop
invariant-loop l = length (ranks_of l.left.bits) ≡ length (ranks_of l.fn.self.bits) - l.counter
