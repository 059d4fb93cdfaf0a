use Rattle.std.proofs.Common.{◌≡◌, ◌+◌, ◌<◌, ℕ, get_or, length}
use Rattle.seat_book.specs.Counts.{count_at}
use Rattle.break_draw.proofs.filling.counts_of.Given as goal

-- The counts of the tables so far.
abbrev pub invariant-loop-below : goal.invariant-loop-below
invariant-loop-below l = record {
  each : (k : ℕ) → k < l.below → get_or l.counts k 0 ≡ count_at l.book.players (k + 1);
  size : length l.counts ≡ 64;
}
