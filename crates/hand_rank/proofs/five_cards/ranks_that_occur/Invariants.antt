use Rattle.std.proofs.Common.{◌≡◌, ℕ}
use Rattle.hand_rank.specs.Sets.{has_rank}
use Rattle.hand_rank.proofs.KindLaws.{is_found}
use Rattle.hand_rank.proofs.five_cards.ranks_that_occur.Given as goal

abbrev pub invariant-loop-rank : goal.invariant-loop-rank
invariant-loop-rank l = (rank : ℕ) → has_rank l.ranks.bits rank ≡ is_found l.counts l.often l.rank rank
