use Rattle.std.proofs.Common.{arith, rules}
use Rattle.low_rank.proofs.BitLaws.{has_rank_none, low-next, low-all}
use Rattle.low_rank.proofs.low_ranks.LowRanks.of.Goals as goal

pub loop-card-init : goal.loop-card-init
loop-card-init c = has_rank_none

pub loop-card-preserved : goal.loop-card-preserved
loop-card-preserved c =
    low-next c.args.cards.now c.loop-card.card-index c.card-item.result c.loop-card.bits _ (omega arith)
    c.card-item.is (search rules) (omega arith) c.loop-card.invariant

pub returns : goal.returns
returns c = low-all c.args.cards.now c.loop-card.card-index c.loop-card.bits (omega arith) c.loop-card.invariant
