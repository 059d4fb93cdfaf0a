use Rattle.std.proofs.Common.{◌≡◌, ◌++◌, take, drop}
use Rattle.std.specs.Prelude.{map}
use Rattle.pot_layers.specs.Reaches.{grown}
use Rattle.pot_layers.proofs.reach.grow.Given as goal

abbrev pub invariant-loop-index : goal.invariant-loop-index
invariant-loop-index l =
    l.reaches ≡ map (grown l.before l.after) (take l.index l.initial.reaches) ++ drop l.index l.initial.reaches
