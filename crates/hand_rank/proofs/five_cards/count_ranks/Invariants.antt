use Rattle.std.proofs.Common.{take}
use Rattle.hand_rank.specs.Counts.{AreCountsOf}
use Rattle.hand_rank.proofs.five_cards.count_ranks.Given as goal

abbrev pub invariant-loop-card : goal.invariant-loop-card
invariant-loop-card l = AreCountsOf l.counts (take l.card-index l.cards)
