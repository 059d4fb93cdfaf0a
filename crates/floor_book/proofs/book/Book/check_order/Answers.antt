use Rattle.std.proofs.Common.{◌∙◌}
use Rattle.tournament_events.specs.declared.event.Event.TheVariants.{Enter, Reenter, Balance}
use Rattle.tournament_rules.specs.Checks.{book_refusal}
use Rattle.floor_book.proofs.Joins.{refused_on, entry_refusal, reentry_refusal}
use Rattle.floor_book.proofs.Rearranged.{balance_refusal}
use Rattle.floor_book.proofs.book.Book.check_order.Goals as goal

pub returns-in_err-check_enter-in-Enter-clause-err : goal.returns-in_err-check_enter-in-Enter-clause-err
returns-in_err-check_enter-in-Enter-clause-err c =
    let book = c.args.self.now in
    rw c.in-Enter.is (refused_on (book_refusal book (Enter c.in-Enter.name c.in-Enter.table c.in-Enter.seat))
    c.in_err-check_enter-in-Enter.field-0.0 c.from_residual.result
    (entry_refusal book c.in-Enter.name c.in-Enter.table c.in-Enter.seat ∙ c.in_err-check_enter-in-Enter.ensures.checked)
    c.from_residual.ensures.0 c.from_residual.ensures.1)

pub returns-in_ok-check_enter-in-Enter-clause-ok : goal.returns-in_ok-check_enter-in-Enter-clause-ok
returns-in_ok-check_enter-in-Enter-clause-ok c =
    rw c.in-Enter.is (entry_refusal c.args.self.now c.in-Enter.name c.in-Enter.table c.in-Enter.seat
    ∙ c.in_ok-check_enter-in-Enter.ensures.checked)

pub returns-in_err-check_reenter-in-Reenter-clause-err : goal.returns-in_err-check_reenter-in-Reenter-clause-err
returns-in_err-check_reenter-in-Reenter-clause-err c =
    let book = c.args.self.now in
    rw c.in-Reenter.is (refused_on (book_refusal book (Reenter c.in-Reenter.name c.in-Reenter.table c.in-Reenter.seat))
    c.in_err-check_reenter-in-Reenter.field-0.0 c.from_residual-in_err-check_reenter-in-Reenter.result
    (reentry_refusal book c.in-Reenter.name c.in-Reenter.table c.in-Reenter.seat ∙ c.in_err-check_reenter-in-Reenter.ensures.checked)
    c.from_residual-in_err-check_reenter-in-Reenter.ensures.0 c.from_residual-in_err-check_reenter-in-Reenter.ensures.1)

pub returns-in_ok-check_reenter-in-Reenter-clause-ok : goal.returns-in_ok-check_reenter-in-Reenter-clause-ok
returns-in_ok-check_reenter-in-Reenter-clause-ok c =
    rw c.in-Reenter.is (reentry_refusal c.args.self.now c.in-Reenter.name c.in-Reenter.table c.in-Reenter.seat
    ∙ c.in_ok-check_reenter-in-Reenter.ensures.checked)

pub returns-in_err-check_balance-in-Balance-clause-err : goal.returns-in_err-check_balance-in-Balance-clause-err
returns-in_err-check_balance-in-Balance-clause-err c =
    let book = c.args.self.now in
    rw c.in-Balance.is (refused_on (book_refusal book (Balance c.in-Balance.from c.in-Balance.to))
    c.in_err-check_balance-in-Balance.field-0.0 c.from_residual-in_err-check_balance-in-Balance.result
    (balance_refusal book c.in-Balance.from c.in-Balance.to ∙ c.in_err-check_balance-in-Balance.ensures.checked)
    c.from_residual-in_err-check_balance-in-Balance.ensures.0
    c.from_residual-in_err-check_balance-in-Balance.ensures.1)

pub returns-in_ok-check_balance-in-Balance-clause-ok : goal.returns-in_ok-check_balance-in-Balance-clause-ok
returns-in_ok-check_balance-in-Balance-clause-ok c =
    rw c.in-Balance.is (balance_refusal c.args.self.now c.in-Balance.from c.in-Balance.to
    ∙ c.in_ok-check_balance-in-Balance.ensures.checked)
