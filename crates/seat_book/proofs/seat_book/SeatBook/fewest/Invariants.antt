use Rattle.std.proofs.Common.{◌≡◌, take}
use Rattle.std.specs.Prelude.{fold}
use Rattle.seat_book.proofs.TableCounts.{lesser}
use Rattle.seat_book.proofs.seat_book.SeatBook.fewest.Given as goal

-- The least of the counts so far that are not 0.
abbrev pub invariant-loop-count : goal.invariant-loop-count
invariant-loop-count l = l.least ≡ fold lesser 0 (take l.count-index l.count-items)
