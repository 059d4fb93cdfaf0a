use Rattle.std.proofs.Common.{true}
use Rattle.history_lock.specs.Passes.{seen}
use Rattle.session_desk.specs.Desks.{HasDeskMoved, nothing}
use Rattle.session_desk.specs.Telling.{HasToldFloor, reach_of}
use Rattle.session_desk.proofs.desk.Desk.tell_floor.Given as goal

-- the desk made some holds, and what it found in them was told
abbrev pub invariant-loop : goal.invariant-loop
invariant-loop g l = record {
  moved : HasDeskMoved 0 (λ table. 0) nothing l.initial.desk l.desk;
  told : HasToldFloor (seen l.desk.book) (reach_of l.initial.told) (reach_of l.told) true l.initial.out.items
      l.out.items;
}
