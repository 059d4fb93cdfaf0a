use Rattle.std.proofs.Common.{◌≡◌, suc, ◌-◌}
use Rattle.std.specs.Prelude.{find}
use Rattle.rulebook.specs.Seats.{walk}
use Rattle.floor_director.specs.Orders.{last_open, is_last_open}
use Rattle.floor_director.proofs.orders.last_open.Given as goal

-- Of the tables that are left, the first that passes is that of all.
abbrev pub invariant-loop-below : goal.invariant-loop-below
invariant-loop-below l =
    find (is_last_open l.book) (walk suc (l.book.table_count - l.below) l.below) ≡ last_open l.book
