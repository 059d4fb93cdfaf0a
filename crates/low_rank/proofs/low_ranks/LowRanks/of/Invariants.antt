use Rattle.std.proofs.Common.{◌≡◌, ℕ, take}
use Rattle.low_rank.specs.LowRanks.{has_rank, has_low}
use Rattle.low_rank.proofs.low_ranks.LowRanks.of.Given as goal

abbrev pub invariant-loop-card : goal.invariant-loop-card
invariant-loop-card l = (rank : ℕ) → has_rank l.bits rank ≡ has_low (take l.card-index l.cards) rank
