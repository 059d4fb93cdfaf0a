use Rattle.std.proofs.Common.{◌≡◌, ◌++◌, take, drop}
use Rattle.showdown.specs.Winners.{in_play}
use Rattle.showdown.proofs.winning.in_play.Given as goal

abbrev pub invariant-loop-index : goal.invariant-loop-index
invariant-loop-index l = l.rivals ≡ take l.index (in_play l.eligible l.hands) ++ drop l.index l.initial.rivals
