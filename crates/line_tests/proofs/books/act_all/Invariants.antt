use Rattle.std.proofs.Common.{◌≡◌}
use Rattle.line_tests.proofs.books.act_all.Given as goal

abbrev pub invariant-loop-line : goal.invariant-loop-line
invariant-loop-line l = l.hand.start ≡ l.initial.hand.start
