use Rattle.std.proofs.Common.{arith, ◌≡◌, ◌∙◌, [], ap, refl, sym, length}
use Rattle.std.proofs.lemmas.Grind.{common_steps}
use Rattle.std.proofs.lemmas.List.{append-nil}
use Rattle.std.proofs.lemmas.Result.{IfOk-weaker}
use Rattle.dock_rules.specs.Journals.{tale_of}
use Rattle.dock_rules.specs.Pieces.{piece_end}
use Rattle.book_dock.specs.declared.hold.BookHold.{BookHold}
use Rattle.book_dock.proofs.Standing.{grown-by_none, stands}
use Rattle.book_dock.proofs.dock.BookDock.follow.Goals as goal

pub leave-requires-clause-grown : goal.leave-requires-clause-grown
leave-requires-clause-grown g c = grown-by_none c.args.pass c.enter-inside.result c.enter-inside.ensures

pub returns-clause-stands : goal.returns-clause-stands
returns-clause-stands g c =
    let hold = c.enter-inside.result.value in
    stands c.args.pass c.leave.result c.enter-inside.result.turn hold hold c.enter-inside.ensures c.leave.ensures [] _
    (sym (append-nil hold.journal.items)) (
      c.stopped.ensures ∙ ap (λ (hold : BookHold). (tale_of hold.journal.items).ended) c.value-hold.ensures,
      (
        grind (arith, common_steps),
        (
          IfOk-weaker c.read_lines.result
              (λ last. last ≡ piece_end c.args.from c.args.most (length c.value-hold.result.now.journal.items))
              (λ last. last ≡ piece_end c.args.from c.args.most (length hold.journal.items))
              (λ last is. is
              ∙ ap (λ (hold : BookHold). piece_end c.args.from c.args.most (length hold.journal.items))
              c.value-hold.ensures) c.read_lines.ensures.last,
          refl,
        ),
      ),
    )
