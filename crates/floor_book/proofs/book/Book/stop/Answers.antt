use Rattle.std.proofs.Common.{◌∙◌}
use Rattle.tournament_events.specs.declared.event.Event.TheVariants.{Stop}
use Rattle.tournament_rules.specs.Checks.{book_refusal}
use Rattle.floor_book.proofs.Joins.{answered_no, stop_refusal}
use Rattle.floor_book.proofs.book.Book.stop.Goals as goal

pub returns-in_err-check_going-clause-answer : goal.returns-in_err-check_going-clause-answer
returns-in_err-check_going-clause-answer c =
    answered_no (book_refusal c.args.self.now Stop) c.in_err-check_going.field-0.0 c.from_residual.result
    (stop_refusal c.args.self.now ∙ c.in_err-check_going.ensures) c.from_residual.ensures.0
    c.from_residual.ensures.1

pub returns-clause-answer : goal.returns-clause-answer
returns-clause-answer c = stop_refusal c.args.self.now ∙ c.in_ok-check_going.ensures
