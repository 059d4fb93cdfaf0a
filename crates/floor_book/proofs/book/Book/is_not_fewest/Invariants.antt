use Rattle.std.proofs.Common.{◌≡◌}
use Rattle.tournament_rules.specs.Checks.{is_not_fewest}
use Rattle.floor_book.proofs.TablesLeft.{any_left, has_fewer}
use Rattle.floor_book.proofs.book.Book.is_not_fewest.Given as goal

-- What is found among the tables that are left is what is found among all.
abbrev pub invariant-loop-below : goal.invariant-loop-below
invariant-loop-below l = any_left (has_fewer l.self l.table) l.self.plan.tables l.below ≡ is_not_fewest l.self l.table
