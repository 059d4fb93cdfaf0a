use Rattle.std.proofs.Common.{◌∙◌, ◌++◌, [], ℕ, ap, refl, subst, sym}
use Rattle.std.specs.Prelude.{is_ok}
use Rattle.history_lock.specs.Holds.{IsEntered}
use Rattle.dock_rules.specs.Added.{only_if}
use Rattle.dock_rules.specs.Journals.{entry_told, tale_of}
use Rattle.dock_rules.specs.Points.{next_begin}
use Rattle.book_dock.specs.declared.hold.BookHold.{BookHold}
use Rattle.book_dock.proofs.Standing.{stands}
use Rattle.book_dock.proofs.dock.BookDock.begin.Goals as goal

pub returns-clause-stands : goal.returns-clause-stands
returns-clause-stands g c =
    let hold = c.value_mut.result.now in
    let turn = c.enter-inside.result.turn in
    let number = c.number-caller.ensures ∙ c.enter-inside.ensures.number in
    stands c.args.pass c.leave-pass.result turn hold c.begin-answer.new.self
    (subst (λ (value : BookHold). IsEntered c.args.pass (record { value = value; turn = turn }))
    (sym c.value_mut.ensures.value) c.enter-inside.ensures) c.leave-pass.ensures _ _
    (c.begin-answer.ensures.journal
    ∙ ap (λ (caller : ℕ). hold.journal.items ++ only_if (is_ok c.begin-answer.result)
    (entry_told (tale_of hold.journal.items) caller (next_begin (tale_of hold.journal.items) c.args.table) [])) number)
    (c.begin-answer.ensures.answer, c.begin-answer.ensures.hand, refl)
