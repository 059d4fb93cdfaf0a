use Rattle.std.proofs.Common.{rules, ◌≡◌, ◌∙◌, ◌++◌, ℕ, List, ap, refl, sym, subst}
use Rattle.tournament_events.specs.declared.event.Event.TheVariants as events
use Rattle.history_lock.specs.Holds.{IsEntered}
use Rattle.history_lock.specs.Passes.{seen}
use Rattle.dock_rules.specs.Added.{only_if}
use Rattle.view_rules.specs.declared.entries.JournalEntry.{JournalEntry}
use Rattle.dock_rules.specs.Journals.{Has, IsLegalJournal, entry_told, tale_of}
use Rattle.dock_rules.proofs.Keeping.{has-kept}
use Rattle.book_dock.specs.declared.hold.BookHold.{BookHold}
use Rattle.book_dock.specs.Ends.{is_settled}
use Rattle.book_dock.proofs.Standing.{stands}
use Rattle.book_dock.proofs.dock.BookDock.settle.Goals as goal

pub settle-end-requires-clause-has : goal.settle-end-requires-clause-has
settle-end-requires-clause-has g c =
    let entered = c.enter-inside.ensures in
    let hold = c.value_mut.result.now in
    let before : List JournalEntry = seen c.args.pass in
    let others : List JournalEntry = entered.others.0 in
    let grown : hold.journal.items ≡ before ++ others =
    ap (λ value. value.journal.items) c.value_mut.ensures.value ∙ (sym entered.all_found ∙ entered.others.1) in
    let number : c.number-caller.result ≡ c.args.pass.number = search rules in
    let kept = has-kept c.args.pass.number c.args.done.start before others
    (subst IsLegalJournal grown hold.kept.legal).allowed entered.others.2 c.requires.has in
    subst (λ (at : ℕ × List JournalEntry). Has at.0 c.args.done.start (tale_of at.1))
    (λ i. (sym number i, sym grown i)) kept

pub returns-clause-stands : goal.returns-clause-stands
returns-clause-stands g c =
    let hold = c.value_mut.result.now in
    let turn = c.enter-inside.result.turn in
    let number = c.number-caller.ensures ∙ c.enter-inside.ensures.number in
    stands c.args.pass c.leave-pass.result turn hold c.settle-end.new.self
    (subst (λ (value : BookHold). IsEntered c.args.pass (record { value = value; turn = turn }))
    (sym c.value_mut.ensures.value) c.enter-inside.ensures) c.leave-pass.ensures _ _
    (c.settle-end.ensures.journal
    ∙ ap (λ (caller : ℕ). hold.journal.items ++ only_if (is_settled c.settle-end.result)
    (entry_told (tale_of hold.journal.items) caller (events.Settle c.args.done.start.table) c.args.done.acts)) number)
    (c.settle-end.ensures.ended, refl)
