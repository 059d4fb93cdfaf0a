use Rattle.std.proofs.Common.{◌≡◌, max, take}
use Rattle.std.specs.Prelude.{fold}
use Rattle.seat_book.proofs.seat_book.SeatBook.fullest.Given as goal

-- The greatest of the counts so far.
abbrev pub invariant-loop-count : goal.invariant-loop-count
invariant-loop-count l = l.greatest ≡ fold max 0 (take l.count-index l.count-items)
