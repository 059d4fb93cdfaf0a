use Rattle.showdown.specs.Hands.{AreDealtApart}
use Rattle.rule_tests.proofs.awards.dealt.Given as goal

abbrev pub invariant-loop-seat : goal.invariant-loop-seat
invariant-loop-seat l = AreDealtApart l.game l.board l.live
