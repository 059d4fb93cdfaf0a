use Rattle.std.proofs.Common.{◌∙◌, sym, ap, subst, List}
use Rattle.card_set.specs.declared.card.Card.{Card}
use Rattle.card_set.specs.Decks.{IsDeck}
use Rattle.break_draw.specs.declared.random.DrawKind.TheVariants.{Deck}
use Rattle.break_draw.specs.Generator.{drawn_order}
use Rattle.floor_director.proofs.DrawnDecks.{deck-reordered, in_order-sorted}
use Rattle.floor_director.proofs.decks.deck_of.Goals as goal

pub returns-clause-drawn : goal.returns-clause-drawn
returns-clause-drawn c = c.shuffle.ensures.drawn
    ∙ ap (λ (cards : List Card). drawn_order c.args.seed Deck c.args.k cards)
    (c.row.ensures.same ∙ in_order-sorted c.sorted.result c.sorted.ensures.deck.whole c.sorted.ensures.order)

pub returns-clause-deck : goal.returns-clause-deck
returns-clause-deck c = deck-reordered c.row.result.cards c.shuffle.new.items c.shuffle.ensures.permutation
    (subst IsDeck (sym c.row.ensures.same) c.sorted.ensures.deck)
