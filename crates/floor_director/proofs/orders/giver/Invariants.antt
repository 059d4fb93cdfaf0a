use Rattle.std.proofs.Common.{◌≡◌, suc, ◌-◌}
use Rattle.std.specs.Prelude.{find}
use Rattle.rulebook.specs.Seats.{walk}
use Rattle.floor_director.specs.Orders.{giver, may_give}
use Rattle.floor_director.proofs.orders.giver.Given as goal

-- Of the tables that are left, the first that passes is that of all.
abbrev pub invariant-loop-below : goal.invariant-loop-below
invariant-loop-below l =
    find (may_give l.book) (walk suc (l.book.table_count - l.below) l.below) ≡ giver l.book
