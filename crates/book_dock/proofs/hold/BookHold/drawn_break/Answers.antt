use Rattle.std.proofs.Common.{◌≡◌, ◌∙◌, true, false, ap, sym}
use Rattle.std.specs.Prelude.{Some}
use Rattle.seat_book.specs.Seatings.{Seating}
use Rattle.level_plan.specs.Items.{is_between}
use Rattle.balance_rule.specs.Filling.{fill_seats, lacks_room, names_at}
use Rattle.break_draw.specs.declared.random.DrawKind.TheVariants.{Seats, Names}
use Rattle.break_draw.specs.Generator.{drawn_order}
use Rattle.dock_rules.specs.Journals.{tale_of}
use Rattle.book_dock.proofs.Booked.{break-fills, break-free, break-made, break-refused, break-there, memory-exit, refused-exit}
use Rattle.book_dock.proofs.hold.BookHold.drawn_break.Goals as goal

pub returns-in_err-check_break-clause-answer : goal.returns-in_err-check_break-clause-answer
returns-in_err-check_break-clause-answer c =
    let hold = c.args.self.now in
    refused-exit _ c.in_err-check_break.field-0.0 c.from_residual.result
    (break-refused hold.journal.items hold.seed hold.book hold.kept c.args.table c.in_err-check_break.field-0.0
    c.in_err-check_break.ensures) c.from_residual.ensures.0 c.from_residual.ensures.1

pub returns-in_default-clause-answer : goal.returns-in_default-clause-answer
returns-in_default-clause-answer c =
    let hold = c.args.self.now in
    let free = break-free hold.journal.items hold.seed hold.book hold.kept c.args.table c.in_ok-check_break.ensures in
    let there = break-there hold.journal.items hold.seed hold.book hold.kept c.args.table free in
    let beyond = ap (λ (seating : Seating). is_between 1 seating.table_count c.args.table)
    (sym c.seats-seats.ensures.seats) ∙ c.in_default.ensures.none in
    let never : true ≡ false = sym there ∙ beyond in
    absurd cc

pub returns-in_default-fill_seats-clause-answer : goal.returns-in_default-fill_seats-clause-answer
returns-in_default-fill_seats-clause-answer c =
    let hold = c.args.self.now in
    let free = break-free hold.journal.items hold.seed hold.book hold.kept c.args.table c.in_ok-check_break.ensures in
    let lacks = (λ i. lacks_room (sym c.seats-seats.ensures.seats i) (sym c.in-Some.ensures.same i))
    ∙ c.fill_seats.ensures.no_room.0 c.in_default-fill_seats.is in
    absurd (break-fills hold.journal.items hold.seed hold.book hold.kept c.args.table free lacks)

pub returns-in_err-fill-clause-answer : goal.returns-in_err-fill-clause-answer
returns-in_err-fill-clause-answer c =
    let hold = c.args.self.now in
    memory-exit _ c.from_residual-in_err-fill.result
    (break-free hold.journal.items hold.seed hold.book hold.kept c.args.table c.in_ok-check_break.ensures)
    c.from_residual-in_err-fill.ensures.0 c.from_residual-in_err-fill.ensures.1

pub returns-in_err-names-clause-answer : goal.returns-in_err-names-clause-answer
returns-in_err-names-clause-answer c =
    let hold = c.args.self.now in
    memory-exit _ c.from_residual-in_err-names.result
    (break-free hold.journal.items hold.seed hold.book hold.kept c.args.table c.in_ok-check_break.ensures)
    c.from_residual-in_err-names.ensures.0 c.from_residual-in_err-names.ensures.1

pub returns-in_err-seats-clause-answer : goal.returns-in_err-seats-clause-answer
returns-in_err-seats-clause-answer c =
    let hold = c.args.self.now in
    memory-exit _ c.from_residual-in_err-seats.result
    (break-free hold.journal.items hold.seed hold.book hold.kept c.args.table c.in_ok-check_break.ensures)
    c.from_residual-in_err-seats.ensures.0 c.from_residual-in_err-seats.ensures.1

pub returns-clause-answer : goal.returns-clause-answer
returns-clause-answer c =
    let hold = c.args.self.now in
    break-free hold.journal.items hold.seed hold.book hold.kept c.args.table c.in_ok-check_break.ensures

pub returns-clause-event : goal.returns-clause-event
returns-clause-event c =
    let hold = c.args.self.now in
    let number = tale_of hold.journal.items in
    let filled : fill_seats hold.book.seating c.args.table ≡ Some c.in_ok-fill.fill.items =
    (λ i. fill_seats (sym c.seats-seats.ensures.seats i) (sym c.in-Some.ensures.same i))
    ∙ (c.in-Some-fill_seats.ensures.fill ∙ ap Some (sym (c.in_ok-fill.ensures.items ∙ c.places.ensures))) in
    let seats = c.from_vec.ensures ∙ (c.in_ok-seats.ensures.seats
    ∙ (λ i. drawn_order hold.seed Seats (c.number.ensures i) c.in_ok-fill.fill.items)) in
    let names = c.from_vec-2.ensures ∙ (c.in_ok-seats.ensures.names
    ∙ (λ i. drawn_order hold.seed Names (c.number.ensures i) (c.in_ok-names.ensures i))
    ∙ (λ i. drawn_order hold.seed Names number.count
    (names_at (c.seats-seats.ensures.seats i) (c.in-Some.ensures.same i)))) in
    break-made hold.journal.items hold.seed hold.book hold.kept c.args.table c.in_ok-fill.fill.items c.from_vec.result
    c.from_vec-2.result filled seats names
