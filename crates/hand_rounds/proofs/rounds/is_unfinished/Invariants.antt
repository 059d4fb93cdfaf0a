use Rattle.std.proofs.Common.{◌≡◌, ◌-◌, suc}
use Rattle.std.specs.List.{list_any}
use Rattle.rulebook.specs.Seats.{walk}
use Rattle.hand_rounds.specs.Rounds.{holds_open, is_unfinished}
use Rattle.hand_rounds.proofs.rounds.is_unfinished.Given as goal

-- What is found among the tables that are left is what is found among all.
abbrev pub invariant-loop-below : goal.invariant-loop-below
invariant-loop-below l = list_any (holds_open l.book)
    (walk suc (l.book.table_count - l.below) l.below) ≡ is_unfinished l.book
