use Rattle.std.proofs.Common.{take}
use Rattle.table_engine.specs.Results.{with_stacks}
use Rattle.floor_book.proofs.Paid.{IsPaidSoFar}
use Rattle.floor_book.proofs.pay.pay_stacks.Given as goal

abbrev pub invariant-loop-index : goal.invariant-loop-index
invariant-loop-index l = IsPaidSoFar l.initial.seats l.seats (take l.index (with_stacks l.players l.stacks))
