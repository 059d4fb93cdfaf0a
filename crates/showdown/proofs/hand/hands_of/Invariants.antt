use Rattle.std.proofs.Common.{◌≡◌, ◌++◌, take, drop}
use Rattle.showdown.specs.Hands.{hands_of}
use Rattle.showdown.proofs.hand.hands_of.Given as goal

abbrev pub invariant-loop-index : goal.invariant-loop-index
invariant-loop-index l = l.hands ≡ take l.index (hands_of l.game l.board l.live) ++ drop l.index l.initial.hands
