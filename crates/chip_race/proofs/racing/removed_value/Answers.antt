use Rattle.std.proofs.Common.{◌≤◌, arith}
use Rattle.std.proofs.lemmas.Grind.{common_steps}
use Rattle.std.specs.Prelude.{sum_by, sum}
use Rattle.std.proofs.lemmas.List.Sums.{sum_by_more_le}
use Rattle.chip_race.specs.Races.{odd_value}
use Rattle.chip_race.proofs.Given.{odd-le}
use Rattle.chip_race.proofs.racing.removed_value.Goals as goal

pub overflow_add-removed : goal.overflow_add-removed
overflow_add-removed c =
    let more = sum_by_more_le (odd_value c.args.new) c.args.stacks.now c.loop-stack.stack-index 0 (omega arith) in
    let within : sum_by (odd_value c.args.new) c.args.stacks.now ≤ sum c.args.stacks.now =
    odd-le c.args.new c.args.stacks.now in
    omega (arith, more, within, c.loop-stack.invariant, c.requires.fits)

pub loop-stack-preserved : goal.loop-stack-preserved
loop-stack-preserved c = grind (arith, common_steps)

pub returns : goal.returns
returns c = grind (arith, common_steps)
