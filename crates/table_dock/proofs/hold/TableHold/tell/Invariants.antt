use Rattle.table_dock.specs.Telling.{AreTold}
use Rattle.table_dock.proofs.hold.TableHold.tell.Given as goal

abbrev pub invariant-loop-index : goal.invariant-loop-index
invariant-loop-index l =
    AreTold l.self-inside.entries.items l.from l.index l.initial.teller l.teller l.initial.out.items l.out.items
