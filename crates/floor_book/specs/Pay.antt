-- Who may be paid. This project's own.
use Rattle.std.specs.Prelude.{◌≡◌, true, ◌==◌, nat_lt, List, map}
use Rattle.std.specs.List.{list_all}
use Rattle.rulebook.specs.Pairs.{are_distinct}
use Rattle.rulebook.specs.Limits.{most_entries}
use Rattle.table_engine.specs.declared.start.StartSeat.{StartSeat}

-- Those to whom stacks go back have distinct numbers, each of an entry.
pub record ArePayees (payees : List StartSeat) : Type 0 where
  pub apart : are_distinct (λ one other. one == other) (map (λ payee. payee.player) payees) ≡ true
  pub entries : list_all (λ payee. nat_lt payee.player most_entries) payees ≡ true
