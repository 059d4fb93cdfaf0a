use Rattle.std.proofs.Common.{◌∙◌, eqb, lit≤, sym}
use Rattle.card_set.specs.declared.card.Card.{Card}
use Rattle.hand_rank.proofs.SuitLaws.{longest-is, longest-none, last-suit, suit-enough, suit-few}
use Rattle.hand_rank.proofs.suits.Suits.longest.Goals as goal

pub returns-then-has_more : goal.returns-then-has_more
returns-then-has_more c cards are once few =
    longest-is _ 0 cards once (λ r. are 0 r _ (lit≤ tt)) few (λ s four apart five.
    suit-enough _ 0 cards once (λ r. are 0 r _ (lit≤ tt)) (sym c.has_more.ensures ∙ c.if-has_more.true))

pub returns-then-has_more-2 : goal.returns-then-has_more-2
returns-then-has_more-2 c cards are once few =
    longest-is _ 1 cards once (λ r. are 1 r _ (lit≤ tt)) few (λ s four apart five.
    suit-enough _ 1 cards once (λ r. are 1 r _ (lit≤ tt)) (sym c.has_more-2.ensures ∙ c.if-has_more-2.true))

pub returns-then-has_more-3 : goal.returns-then-has_more-3
returns-then-has_more-3 c cards are once few =
    longest-is _ 2 cards once (λ r. are 2 r _ (lit≤ tt)) few (λ s four apart five.
    suit-enough _ 2 cards once (λ r. are 2 r _ (lit≤ tt)) (sym c.has_more-3.ensures ∙ c.if-has_more-3.true))

pub returns-then-has_more-4 : goal.returns-then-has_more-4
returns-then-has_more-4 c cards are once few =
    longest-is _ 3 cards once (λ r. are 3 r _ (lit≤ tt)) few (λ s four apart five.
    suit-enough _ 3 cards once (λ r. are 3 r _ (lit≤ tt)) (sym c.has_more-4.ensures ∙ c.if-has_more-4.true))

pub returns : goal.returns
returns c cards are once few =
    longest-none c.empty.result.bits cards c.empty.ensures (λ s four five.
    suit-few _ 3 cards once (λ r. are 3 r _ (lit≤ tt)) (sym c.has_more-4.ensures ∙ c.if-has_more-4.false)
    (last-suit (λ suit (card : Card). eqb card.suit suit) cards
    (suit-few _ 0 cards once (λ r. are 0 r _ (lit≤ tt)) (sym c.has_more.ensures ∙ c.if-has_more.false))
    (suit-few _ 1 cards once (λ r. are 1 r _ (lit≤ tt)) (sym c.has_more-2.ensures ∙ c.if-has_more-2.false))
    (suit-few _ 2 cards once (λ r. are 2 r _ (lit≤ tt)) (sym c.has_more-3.ensures ∙ c.if-has_more-3.false)) s four
    five))
