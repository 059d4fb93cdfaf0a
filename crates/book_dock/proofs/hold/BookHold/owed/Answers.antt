use Rattle.std.proofs.Common.{◌∙◌, sym}
use Rattle.dock_rules.specs.Journals.{tale_of}
use Rattle.book_dock.proofs.Asking.{asked-memory, next-free}
use Rattle.book_dock.proofs.Booked.{valid-is}
use Rattle.book_dock.proofs.hold.BookHold.owed.Goals as goal

pub returns-in_err-next_order : goal.returns-in_err-next_order
returns-in_err-next_order c =
    let hold = c.args.self.now in
    asked-memory (tale_of hold.journal.items) c.from_residual.result c.from_residual.ensures.0 c.from_residual.ensures.1
    (next-free (tale_of hold.journal.items) hold.book hold.kept.come
    (valid-is hold.journal.items hold.seed hold.book hold.kept) (sym c.is_stopped.ensures ∙ c.if-is_stopped.false))
