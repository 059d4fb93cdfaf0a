-- What holds of what lies behind the lock of a table. This project's own.
use Rattle.std.specs.Prelude.{◌≡◌, ◌+◌, ◌≤◌, length, option_to_list, vec_capacity, vec_len}
use Rattle.dock_rules.specs.Tables.{IsSoundTable, lying_hand}
use Rattle.table_dock.specs.declared.hold.TableHold.TheInside.{Inside}

-- The entries are a sound history, the hand is the one that lies there by it, and there is room for the entry that
-- closes it.
pub record IsTableKept (hold : Inside) : Type 0 where
  pub sound : IsSoundTable hold.entries.items
  pub told : lying_hand hold.entries.items ≡ hold.hand
  pub room : vec_len hold.entries + length (option_to_list hold.hand) ≤ vec_capacity hold.entries
