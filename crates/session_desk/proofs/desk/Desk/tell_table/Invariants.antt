use Rattle.std.proofs.Common.{◌+◌, true}
use Rattle.view_rules.specs.Shown.{Viewer}
use Rattle.session_desk.specs.Desks.{HasDeskMoved, IsSameBut, nothing, sights}
use Rattle.session_desk.specs.Telling.{HasToldTable, IsWatch}
use Rattle.session_desk.proofs.desk.Desk.tell_table.Given as goal

-- the desk made some holds of its pass of the table alone, and what it found in them was told
abbrev pub invariant-loop : goal.invariant-loop
invariant-loop g l = record {
  moved : HasDeskMoved 0 (λ table. 0) nothing l.initial.desk l.desk;
  others : IsSameBut (l.index + 1) l.initial.desk l.desk;
  told : HasToldTable ((sights l.desk).tables (l.index + 1)) l.initial.watch l.watch true l.initial.out.items
      l.out.items;
  watch : (who : Viewer) → IsWatch who (l.index + 1) ((sights l.initial.desk).tables (l.index + 1)) l.initial.watch
      → IsWatch who (l.index + 1) ((sights l.desk).tables (l.index + 1)) l.watch;
}
