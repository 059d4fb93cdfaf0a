use Rattle.floor_book.proofs.Raced.{IsRestackedTo}
use Rattle.floor_book.proofs.race.restack.Given as goal

abbrev pub invariant-loop-below : goal.invariant-loop-below
invariant-loop-below l = IsRestackedTo l.initial.seats l.seats l.table l.stacks l.below
