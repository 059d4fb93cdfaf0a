use Rattle.std.proofs.Common.{◌≡◌, ◌+◌, ◌*◌, ◌≤◌, ◌++◌, take, drop, length}
use Rattle.chip_race.specs.BestCards.{best_cards}
use Rattle.chip_race.proofs.best_cards.best_cards.Given as goal

abbrev pub invariant-loop-index : goal.invariant-loop-index
invariant-loop-index l = record {
  whole : best_cards l.old l.new l.stacks l.cards ≡ take l.index l.best ++ best_cards l.old l.new
      (drop l.index l.stacks) l.left;
  seats : length l.best ≡ 10;
  enough : 52 ≤ length l.left + 5 * l.index;
}
