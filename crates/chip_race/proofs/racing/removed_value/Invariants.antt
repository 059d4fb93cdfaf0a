use Rattle.std.proofs.Common.{◌≡◌, take}
use Rattle.std.specs.Prelude.{sum_by}
use Rattle.chip_race.specs.Races.{odd_value}
use Rattle.chip_race.proofs.racing.removed_value.Given as goal

abbrev pub invariant-loop-stack : goal.invariant-loop-stack
invariant-loop-stack l = l.removed ≡ sum_by (odd_value l.new) (take l.stack-index l.stacks)
