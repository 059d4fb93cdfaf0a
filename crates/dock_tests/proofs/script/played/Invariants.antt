use Rattle.std.proofs.Common.{◌≡◌}
use Rattle.dock_tests.proofs.script.played.Given as goal

abbrev pub invariant-loop-number : goal.invariant-loop-number
invariant-loop-number l = l.hand.start ≡ l.fn.hand.start
