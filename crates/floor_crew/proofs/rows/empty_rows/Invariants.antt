use Rattle.std.proofs.Common.{◌≡◌, ◌≤◌, All, vec_capacity, vec_len}
use Rattle.floor_crew.specs.Rows.{IsEmptyFor}
use Rattle.floor_crew.proofs.rows.empty_rows.Given as goal

-- the rows so far are empty and have the room, and there is room for the others
abbrev pub invariant-loop : goal.invariant-loop
invariant-loop g l = record {
  count : vec_len l.rows ≡ l.counter;
  room : l.count ≤ vec_capacity l.rows;
  empty : All (IsEmptyFor l.room) l.rows.items;
}
