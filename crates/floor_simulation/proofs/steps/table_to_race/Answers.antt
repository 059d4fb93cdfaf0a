use Rattle.std.proofs.Common.{◌≡◌, ◌∙◌, ◌+◌, ◌<◌, ◌≤◌, sym, ap, true, false, arith}
use Rattle.std.specs.Prelude.{is_some}
use Rattle.seat_book.specs.declared.table_status.TableStatus.{TableStatus}
use Rattle.seat_book.specs.Seatings.{Seating}
use Rattle.seat_book.specs.Tables.{status_at}
use Rattle.floor_director.proofs.FirstTables.{first-found, first-over, first-passed, first-start}
use Rattle.tournament_rules.specs.Checks.{is_race_due}
use Rattle.floor_simulation.proofs.steps.table_to_race.Goals as goal

pub loop-below-init : goal.loop-below-init
loop-below-init c = first-start (is_race_due c.args.book.now) c.args.book.now.plan.tables

pub returns-then-is_some : goal.returns-then-is_some
returns-then-is_some c =
    let book = c.args.book.now in
    let below = c.loop-below.below in
    let seats = ap (λ (seating : Seating). seating.table_count) c.seats-seats.ensures.seats in
    let tables = c.seats-seats.ensures.lawful.tables.tables in
    let end = c.table_count-below-end.ensures.tables in
    let within : below < book.plan.tables = omega (arith, c.loop-below-test.true, seats, tables, end) in
    let passes : is_race_due book (below + 1) ≡ true =
    sym (ap (λ (status : TableStatus). is_some status.race) (c.status.ensures.status
    ∙ ap (λ (seating : Seating). status_at seating.tables (below + 1)) c.seats-seats.ensures.seats))
    ∙ (sym c.is_some.ensures ∙ c.if-is_some.true) in
    sym (first-found (is_race_due book) book.plan.tables below within passes) ∙ c.loop-below.invariant

pub loop-below-preserved : goal.loop-below-preserved
loop-below-preserved c =
    let book = c.args.book.now in
    let below = c.loop-below.below in
    let seats = ap (λ (seating : Seating). seating.table_count) c.seats-seats.ensures.seats in
    let tables = c.seats-seats.ensures.lawful.tables.tables in
    let end = c.table_count-below-end.ensures.tables in
    let within : below < book.plan.tables = omega (arith, c.loop-below-test.true, seats, tables, end) in
    let fails : is_race_due book (below + 1) ≡ false =
    sym (ap (λ (status : TableStatus). is_some status.race) (c.status.ensures.status
    ∙ ap (λ (seating : Seating). status_at seating.tables (below + 1)) c.seats-seats.ensures.seats))
    ∙ (sym c.is_some.ensures ∙ c.if-is_some.false) in
    sym (first-passed (is_race_due book) book.plan.tables below within fails) ∙ c.loop-below.invariant

pub returns : goal.returns
returns c =
    let book = c.args.book.now in
    let seats = ap (λ (seating : Seating). seating.table_count) c.seats-seats.ensures.seats in
    let tables = c.seats-seats.ensures.lawful.tables.tables in
    let end = c.table_count-below-end.ensures.tables in
    let over : book.plan.tables ≤ c.loop-below.below = omega (arith, c.loop-below-test.false, seats, tables, end) in
    sym (first-over (is_race_due book) book.plan.tables c.loop-below.below over) ∙ c.loop-below.invariant
