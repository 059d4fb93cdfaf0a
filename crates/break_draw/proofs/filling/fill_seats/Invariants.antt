use Rattle.std.proofs.Common.{◌≡◌, length, Some}
use Rattle.balance_rule.specs.Filling.{count_with, filled}
use Rattle.break_draw.specs.Counting.{HasCounts}
use Rattle.break_draw.proofs.filling.fill_seats.Given as goal

-- The seats that are chosen so far, and the counts with them.
abbrev pub invariant-loop-chosen : goal.invariant-loop-chosen
invariant-loop-chosen l = record {
  chosen : filled l.book l.table l._chosen ≡ Some l.fill;
  counts : HasCounts l.book.table_count (count_with l.book.players l.fill) l.counts;
  size : length l.counts ≡ 64;
}
