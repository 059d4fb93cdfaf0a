use Rattle.std.proofs.Common.{◌≡◌, ◌++◌, map, take, drop}
use Rattle.seat_book.specs.Seatings.{IsSeating}
use Rattle.hand_rounds.specs.Rounds.{begun_by, begins_with}
use Rattle.hand_rounds.proofs.rounds.set_begun.Given as goal

-- The tables that are passed stand anew, the others as before.
abbrev pub invariant-loop-below : goal.invariant-loop-below
invariant-loop-below l = record {
  same : l.book ≡ record l.initial.book {
    tables = map (begun_by (begins_with l.playing)) (take l.below l.initial.book.tables)
        ++ drop l.below l.initial.book.tables;
  };
  lawful : IsSeating l.book;
}
