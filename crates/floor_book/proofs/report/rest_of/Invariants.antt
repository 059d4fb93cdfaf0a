use Rattle.std.proofs.Common.{◌≡◌, take, sum_by}
use Rattle.floor_book.proofs.SlotSums.{stack_in}
use Rattle.floor_book.proofs.report.rest_of.Given as goal

abbrev pub invariant-loop-slot : goal.invariant-loop-slot
invariant-loop-slot l = l.chips ≡ sum_by stack_in (take l.slot-index l.slots)
