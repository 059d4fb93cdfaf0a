use Rattle.std.proofs.Common.{◌≡◌, ◌-◌, ◌*◌, ◌≤◌, suc, map}
use Rattle.std.specs.Prelude.{filter, sum}
use Rattle.rulebook.specs.Seats.{walk}
use Rattle.seat_book.specs.Counts.{count_at}
use Rattle.balance_rule.specs.Filling.{is_other_open}
use Rattle.break_draw.proofs.filling.empty_elsewhere.Given as goal

-- The empty seats of the tables so far.
abbrev pub invariant-loop-below : goal.invariant-loop-below
invariant-loop-below l = record {
  so_far : l.empty ≡ sum (map (λ other. l.book.seat_count - count_at l.book.players other)
      (filter (is_other_open l.book l.table) (walk suc l.below 0)));
  small : l.empty ≤ 10 * l.below;
}
