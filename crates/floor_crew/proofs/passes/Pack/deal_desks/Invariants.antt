use Rattle.std.proofs.Common.{◌≡◌, ◌+◌, ◌≤◌, ℕ, All, vec_capacity, vec_len}
use Rattle.floor_crew.specs.declared.floor.Floor.{Floor}
use Rattle.floor_crew.specs.AtHand.{IsPack}
use Rattle.floor_crew.specs.Working.{IsIdleDesk}
use Rattle.floor_crew.proofs.passes.Pack.deal_desks.Given as goal

-- the desks so far are those of the floor, what is left is still a pack of it, and there is room for the other desks
abbrev pub invariant-loop : goal.invariant-loop
invariant-loop l = record {
  books : vec_len l.self.books + l.counter ≡ vec_len l.initial.self.books;
  rows : vec_len l.self.rows + l.counter ≡ vec_len l.initial.self.rows;
  count : vec_len l.desks ≡ l.counter;
  room : l.count ≤ vec_capacity l.desks;
  short : (most : ℕ) → All (λ row. vec_len row ≤ most) l.initial.self.rows.items
      → All (λ row. vec_len row ≤ most) l.self.rows.items;
  dealt : (floor : Floor) → IsPack floor l.initial.self
      → IsPack floor l.self × All (IsIdleDesk floor) l.desks.items;
}
