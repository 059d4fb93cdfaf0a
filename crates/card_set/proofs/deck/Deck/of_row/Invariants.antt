use Rattle.std.proofs.Common.{take, length}
use Rattle.std.specs.List.{AllPairs}
use Rattle.std.specs.Prelude.{◌≡◌, ◌≢◌}
use Rattle.card_set.proofs.SeenCards.{IsSeen}
use Rattle.card_set.proofs.deck.Deck.of_row.Given as goal

-- The cards so far differ, and the table has just them.
abbrev pub invariant-loop-index : goal.invariant-loop-index
invariant-loop-index l = record {
  distinct : AllPairs (λ one other. one ≢ other) (take l.index l.row.cards);
  size : length l.seen ≡ 52;
  seen : IsSeen l.seen (take l.index l.row.cards);
}
