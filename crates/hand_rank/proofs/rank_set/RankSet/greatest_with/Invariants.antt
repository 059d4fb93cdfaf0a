use Rattle.hand_rank.specs.Sets.{has_rank}
use Rattle.hand_rank.proofs.SoManyLaws.{AreTaken}
use Rattle.hand_rank.proofs.rank_set.RankSet.greatest_with.Given as goal

abbrev pub invariant-loop : goal.invariant-loop
invariant-loop l =
    AreTaken (has_rank l.fn.self.bits) (has_rank l.fn.forced.bits) (has_rank l.ranks.bits) (has_rank l.free.bits)
    l.counter
