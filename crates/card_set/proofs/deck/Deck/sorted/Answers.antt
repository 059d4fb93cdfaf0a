use Rattle.std.proofs.Common.{arith}
use Rattle.card_set.proofs.DeckLaws.{in_order_is_deck}
use Rattle.card_set.proofs.deck.Deck.sorted.Goals as goal

pub invariant_of-result : goal.invariant_of-result
invariant_of-result c = in_order_is_deck c.loop-index.cards c.loop-index.invariant.size
    (λ index other within. c.loop-index.invariant.order index other (omega arith))

pub returns-clause-deck : goal.returns-clause-deck
returns-clause-deck c = in_order_is_deck c.loop-index.cards c.loop-index.invariant.size
    (λ index other within. c.loop-index.invariant.order index other (omega arith))
