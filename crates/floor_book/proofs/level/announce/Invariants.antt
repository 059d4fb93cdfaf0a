use Rattle.std.proofs.Common.{◌≡◌}
use Rattle.floor_book.proofs.Announced.{announced_so_far}
use Rattle.floor_book.proofs.level.announce.Given as goal

abbrev pub invariant-loop-below : goal.invariant-loop-below
invariant-loop-below l = l.seats ≡ announced_so_far l.unit l.initial.seats l.below
