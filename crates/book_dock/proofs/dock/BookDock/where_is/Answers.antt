use Rattle.std.proofs.Common.{◌∙◌, [], ap, refl, sym}
use Rattle.std.proofs.lemmas.List.{append-nil}
use Rattle.dock_rules.specs.Journals.{tale_of}
use Rattle.dock_rules.specs.Points.{place_of_name}
use Rattle.book_dock.specs.declared.hold.BookHold.{BookHold}
use Rattle.book_dock.proofs.Standing.{grown-by_none, stands}
use Rattle.book_dock.proofs.dock.BookDock.where_is.Goals as goal

pub leave-requires-clause-grown : goal.leave-requires-clause-grown
leave-requires-clause-grown g c = grown-by_none c.args.pass c.enter-inside.result c.enter-inside.ensures

pub returns-clause-stands : goal.returns-clause-stands
returns-clause-stands g c =
    let hold = c.enter-inside.result.value in
    stands c.args.pass c.leave.result c.enter-inside.result.turn hold hold c.enter-inside.ensures c.leave.ensures [] _
    (sym (append-nil hold.journal.items)) (
      c.place_of-place.ensures
          ∙ ap (λ (hold : BookHold). place_of_name (tale_of hold.journal.items) c.args.name) c.value.ensures,
      refl,
    )
