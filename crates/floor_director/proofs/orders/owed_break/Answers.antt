use Rattle.std.proofs.Common.{◌≡◌, ◌∙◌, sym, ap, true, false, Some}
use Rattle.seat_book.specs.declared.table_status.TableStatus.{TableStatus}
use Rattle.std.proofs.lemmas.Bool.{ltb-true}
use Rattle.seat_book.specs.Counts.{count_at}
use Rattle.balance_rule.specs.Filling.{empty_elsewhere, fill_seats}
use Rattle.break_draw.specs.declared.random.DrawKind.TheVariants.{Names}
use Rattle.break_draw.specs.Generator.{drawn_order}
use Rattle.break_draw.proofs.FillRoom.{without_room-none}
use Rattle.tournament_events.specs.declared.event.Event.TheVariants.{Break}
use Rattle.floor_director.specs.Orders.{is_playing}
use Rattle.floor_director.proofs.NextOrders.{break-drawn, break-playing, break-without_room, break-without_table}
use Rattle.floor_director.proofs.orders.owed_break.Goals as goal

pub returns-in_default : goal.returns-in_default
returns-in_default c =
    sym (break-without_table c.args.book.now c.args.seed c.args.k (sym c.in_default.ensures.last))

pub returns-then-status : goal.returns-then-status
returns-then-status c =
    let playing : is_playing c.args.book.now c.in-Some.table ≡ true =
    ap (λ (status : TableStatus). status.playing) (sym c.status.ensures.status) ∙ c.if-status.true in
    sym (break-playing c.args.book.now c.args.seed c.args.k c.in-Some.table (sym c.in-Some.ensures.last) playing)

pub returns-in_default-fill_seats : goal.returns-in_default-fill_seats
returns-in_default-fill_seats c =
    let seating = c.args.book.now in
    let resting : is_playing seating c.in-Some.table ≡ false =
    ap (λ (status : TableStatus). status.playing) (sym c.status.ensures.status) ∙ c.if-status.false in
    let fewer = ltb-true (empty_elsewhere seating c.in-Some.table) (count_at seating.players c.in-Some.table)
    (c.fill_seats.ensures.no_room.0 c.in_default-fill_seats.is) in
    sym (break-without_room seating c.args.seed c.args.k c.in-Some.table (sym c.in-Some.ensures.last) resting
    (without_room-none seating c.last_open.ensures.lawful c.in-Some.table fewer))

pub returns : goal.returns
returns c =
    let resting : is_playing c.args.book.now c.in-Some.table ≡ false =
    ap (λ (status : TableStatus). status.playing) (sym c.status.ensures.status) ∙ c.if-status.false in
    let fill : fill_seats c.args.book.now c.in-Some.table ≡ Some c.in_ok-fill.fill.items =
    c.in-Some-fill_seats.ensures.fill ∙ ap Some (sym (c.in_ok-fill.ensures.items ∙ c.places.ensures)) in
    let seats = c.from_vec.ensures ∙ c.in_ok-seats.ensures.seats in
    let names = c.from_vec-2.ensures ∙ (c.in_ok-seats.ensures.names
    ∙ ap (drawn_order c.args.seed Names c.args.k) c.in_ok-names.ensures) in
    (λ i. Some (Break (c.from.ensures i) (seats i) (names i)))
    ∙ sym (break-drawn c.args.book.now c.args.seed c.args.k c.in-Some.table c.in_ok-fill.fill.items
    (sym c.in-Some.ensures.last) resting fill)
