use Rattle.std.proofs.Common.{◌∙◌, ap, arith}
use Rattle.std.proofs.lemmas.Grind.{common_steps}
use Rattle.level_plan.specs.Plans.{PlanTerms}
use Rattle.seat_book.specs.Seatings.{Seating}
use Rattle.floor_book.proofs.Opened.{opened_next, opened_last}
use Rattle.floor_book.proofs.book.first_seats.Goals as goal

pub loop-below-preserved : goal.loop-below-preserved
loop-below-preserved c =
    let tables = c.table_count-below-end.ensures.tables
    ∙ ap (λ (seats : Seating). seats.table_count) c.in_ok-seats.ensures.empty
    ∙ ap (λ (plan : PlanTerms). plan.tables) c.plan.view_is in
    opened_next c.args.plan.now c.loop-below.seats c.set_status.new.self c.loop-below.below
    c.first_status-status.result c.loop-below.invariant c.first_status-status.ensures.status
    (omega (arith, tables)) c.set_status.ensures.same

pub returns : goal.returns
returns c =
    let tables = c.table_count-below-end.ensures.tables
    ∙ ap (λ (seats : Seating). seats.table_count) c.in_ok-seats.ensures.empty
    ∙ ap (λ (plan : PlanTerms). plan.tables) c.plan.view_is in
    opened_last c.args.plan.now c.loop-below.seats c.loop-below.below c.loop-below.invariant (omega (arith, tables))

pub new-requires-clause-most_seats : goal.new-requires-clause-most_seats
new-requires-clause-most_seats c = grind (arith, common_steps)

pub new-requires-clause-some_seats : goal.new-requires-clause-some_seats
new-requires-clause-some_seats c = grind (arith, common_steps)
