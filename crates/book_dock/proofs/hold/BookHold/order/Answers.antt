use Rattle.std.proofs.Common.{sym, subst}
use Rattle.dock_rules.specs.declared.asks.AskAnswer.{AskAnswer}
use Rattle.dock_rules.specs.Points.{IsAskAnswer}
use Rattle.book_dock.proofs.hold.BookHold.order.Goals as goal

pub returns-in-Ok-Some-clause-answer : goal.returns-in-Ok-Some-clause-answer
returns-in-Ok-Some-clause-answer c =
    let asked = rw c.in-Ok-Some.field-0-is at c.in-Ok-Some.ensures in
    subst (λ (wanted : AskAnswer). IsAskAnswer wanted c.answer_of.result) (sym asked.3)
    (c.answer_of.ensures.answer _ c.take.ensures.answer)
