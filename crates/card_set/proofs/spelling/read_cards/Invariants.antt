use Rattle.std.proofs.Common.{◌≡◌, ◌*◌, List, length, take}
use Rattle.card_set.specs.declared.card.Card.{Card}
use Rattle.card_set.specs.Cards.{cards_text}
use Rattle.card_set.proofs.spelling.read_cards.Given as goal

abbrev pub invariant-loop-index : goal.invariant-loop-index
invariant-loop-index g l =
    record {
      size : length l.cards ≡ g.row.N;
      read : cards_text (take l.index l.cards)
          ≡ take (2 * l.index) l.bytes;
      only : (cards : List Card) → length cards ≡ g.row.N → cards_text cards ≡ l.bytes
          → take l.index l.cards ≡ take l.index cards;
    }
