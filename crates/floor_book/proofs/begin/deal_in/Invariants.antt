use Rattle.floor_book.proofs.Dealt.{IsDealtSoFar}
use Rattle.floor_book.proofs.begin.deal_in.Given as goal

abbrev pub invariant-loop-below : goal.invariant-loop-below
invariant-loop-below l = IsDealtSoFar l.initial.seats l.seats l.table l.waiting l.below
