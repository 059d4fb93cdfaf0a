use Rattle.std.proofs.Common.{◌∙◌, [], ap, refl, sym}
use Rattle.std.proofs.lemmas.List.{append-nil}
use Rattle.dock_rules.specs.Journals.{tale_of}
use Rattle.book_dock.specs.declared.hold.BookHold.{BookHold}
use Rattle.book_dock.proofs.Standing.{grown-by_none, stands}
use Rattle.book_dock.proofs.dock.BookDock.stopped.Goals as goal

pub leave-requires-clause-grown : goal.leave-requires-clause-grown
leave-requires-clause-grown g c = grown-by_none c.args.pass c.enter-held.result c.enter-held.ensures

pub returns-clause-stands : goal.returns-clause-stands
returns-clause-stands g c =
    let hold = c.enter-held.result.value in
    stands c.args.pass c.leave.result c.enter-held.result.turn hold hold c.enter-held.ensures c.leave.ensures [] _
    (sym (append-nil hold.journal.items)) (
      c.stopped-stopped.ensures
          ∙ ap (λ (hold : BookHold). (tale_of hold.journal.items).ended) c.value.ensures,
      refl,
    )
