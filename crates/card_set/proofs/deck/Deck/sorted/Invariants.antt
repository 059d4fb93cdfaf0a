use Rattle.std.proofs.Common.{◌≡◌, ◌+◌, ◌/◌, ◌%◌, ◌<◌, ℕ, length}
use Rattle.std.specs.List.{slice_index_or}
use Rattle.card_set.specs.declared.card.Card.{Card}
use Rattle.card_set.proofs.deck.Deck.sorted.Given as goal

abbrev pub invariant-loop-index : goal.invariant-loop-index
invariant-loop-index l = record {
  size : length l.cards ≡ 52;
  order : (index : ℕ) (other : Card) → index < l.index
      → ((slice_index_or l.cards index other).rank ≡ 2 + index / 4)
      × ((slice_index_or l.cards index other).suit ≡ index % 4);
}
