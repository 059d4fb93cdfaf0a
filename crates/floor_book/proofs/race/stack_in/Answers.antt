use Rattle.std.proofs.Common.{sym, ap, ◌<◌, arith}
use Rattle.std.specs.Prelude.{Option}
use Rattle.std.specs.Option.{option_map_or}
use Rattle.seat_book.specs.declared.seated.Seated.{Seated}
use Rattle.floor_book.proofs.Raced.{nobody-beyond}
use Rattle.floor_book.proofs.race.stack_in.Goals as goal

pub returns-then-seat-seat_count : goal.returns-then-seat-seat_count
returns-then-seat-seat_count c =
    let seats = c.args.seats.now in
    let beyond : seats.seat_count < c.args.seat =
    omega (arith, c.if-seat-seat_count.true, c.seat_count.ensures.seats) in
    sym (ap (λ (found : Option Seated). option_map_or (λ player. player.stack) found 0)
    (nobody-beyond seats.table_count seats.seat_count seats.players c.args.table c.args.seat beyond
    c.seat_count.ensures.lawful.within))
