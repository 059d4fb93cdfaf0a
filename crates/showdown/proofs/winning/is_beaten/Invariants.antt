use Rattle.std.proofs.Common.{◌≡◌, take, false}
use Rattle.showdown.specs.Winners.{is_beaten}
use Rattle.showdown.proofs.winning.is_beaten.Given as goal

abbrev pub invariant-loop-rival : goal.invariant-loop-rival
invariant-loop-rival l = is_beaten l.side (take l.rival-index l.hands) l.hand ≡ false
