use Rattle.std.proofs.Common.{◌≡◌, ℕ, suc}
use Rattle.std.specs.Prelude.{filter, fold, None}
use Rattle.std.specs.Option.{ForSome}
use Rattle.rulebook.specs.Seats.{walk}
use Rattle.seat_book.specs.Places.{IsTableOf}
use Rattle.balance_rule.specs.Filling.{is_other_open, lower_of}
use Rattle.break_draw.specs.Counting.{HasCounts}
use Rattle.break_draw.proofs.filling.lowest_table.Given as goal

-- The table with the lowest count so far.
abbrev pub invariant-loop-below : goal.invariant-loop-below
invariant-loop-below l = record {
  so_far : (count : ℕ → ℕ) → HasCounts l.book.table_count count l.counts
      → l.lowest ≡ fold (lower_of count) None (filter (is_other_open l.book l.table) (walk suc l.below 0));
  within : ForSome l.lowest (IsTableOf l.book.table_count);
}
