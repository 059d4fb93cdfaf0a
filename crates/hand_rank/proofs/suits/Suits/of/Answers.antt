use Rattle.std.proofs.Common.{◌∙◌, length-set}
use Rattle.hand_rank.proofs.SuitLaws.{suits-more}
use Rattle.hand_rank.proofs.suits.Suits.of.Goals as goal

pub loop-card-preserved : goal.loop-card-preserved
loop-card-preserved c = (
  length-set c.loop-card.ranks c.card-item.result.suit c.with.result ∙ c.loop-card.invariant.0,
  suits-more c.loop-card.ranks c.args.cards.now c.loop-card.card-index c.card-item.result c.with.result _
      c.loop-card.invariant.0 c.loop-card-test.true c.card-item.is c.with.ensures c.loop-card.invariant.1,
)
