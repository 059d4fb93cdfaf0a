use Rattle.std.proofs.Common.{◌≡◌, take, None}
use Rattle.std.specs.Prelude.{fold}
use Rattle.pot_layers.specs.Reaches.{nearer}
use Rattle.pot_layers.proofs.reach.nearest_above.Given as goal

abbrev pub invariant-loop-reach : goal.invariant-loop-reach
invariant-loop-reach l = l.nearest ≡ fold (nearer l.below) None (take l.reach-index l.reaches)
