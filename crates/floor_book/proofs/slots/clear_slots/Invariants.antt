use Rattle.std.proofs.Common.{◌≡◌, ◌++◌, drop}
use Rattle.std.specs.Prelude.{replicate, None}
use Rattle.floor_book.proofs.slots.clear_slots.Given as goal

abbrev pub invariant-loop-index : goal.invariant-loop-index
invariant-loop-index g l = l.slots.items ≡ replicate l.index None ++ drop l.index l.initial.slots.items
