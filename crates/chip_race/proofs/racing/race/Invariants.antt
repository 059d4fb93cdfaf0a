use Rattle.std.proofs.Common.{◌≡◌, ◌+◌, ◌*◌, ◌≤◌, ◌++◌, take, drop, length}
use Rattle.std.specs.Prelude.{sum}
use Rattle.chip_race.specs.Races.{awarded_chips, winners, stacks_after, added_value}
use Rattle.chip_race.proofs.racing.race.Given as goal

abbrev pub invariant-loop-index : goal.invariant-loop-index
invariant-loop-index l = record {
  seats : length l.after ≡ 10;
  stacks : stacks_after l.new (winners l.old l.new (awarded_chips l.new l.stacks) l.stacks l.deck) 0 l.stacks
      ≡ take l.index l.after ++ stacks_after l.new
      (winners l.old l.new (awarded_chips l.new l.stacks) l.stacks l.deck) l.index (drop l.index l.stacks);
  value : added_value l.new (winners l.old l.new (awarded_chips l.new l.stacks) l.stacks l.deck) 0 l.stacks
      ≡ l.added + added_value l.new (winners l.old l.new (awarded_chips l.new l.stacks) l.stacks l.deck) l.index
      (drop l.index l.stacks);
  few : l.added ≤ 6 * sum (take l.index l.stacks);
}
