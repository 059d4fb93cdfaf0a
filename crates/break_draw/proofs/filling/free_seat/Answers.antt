use Rattle.std.proofs.Common.{◌∙◌, ◌||◌, sym, ap, not, length, arith}
use Rattle.std.specs.List.{list_any}
use Rattle.std.specs.Option.{is_some}
use Rattle.std.proofs.Math.Bool.{or-false}
use Rattle.std.proofs.lemmas.List.{take_all}
use Rattle.rulebook.proofs.Tests.{not-or}
use Rattle.button_blinds.specs.SeatSets.{has_seat}
use Rattle.seat_book.specs.Players.{player_at}
use Rattle.seat_book.proofs.TakenPlaces.{has_seat-taken, taken-size}
use Rattle.balance_rule.specs.Filling.{is_same_place, is_free}
use Rattle.balance_rule.proofs.FreeSeats.{first-alike}
use Rattle.break_draw.proofs.filling.free_seat.Goals as goal

pub loop-place-init : goal.loop-place-init
loop-place-init c = record {
  taken = λ seat first last. ap (λ set. has_seat set seat) c.occupied-taken.ensures.taken
      ∙ (has_seat-taken c.args.table seat first last c.args.book.now.players
      ∙ sym (or-false (is_some (player_at c.args.book.now.players (record { table = c.args.table; seat = seat })))));
  few = omega (arith, c.occupied-taken.ensures.count);
  size = ap length c.occupied-taken.ensures.taken ∙ taken-size c.args.book.now.players c.args.table;
}

pub returns : goal.returns
returns c =
    let seats = c.seat_count-seats.ensures.lawful in
    let all = take_all c.loop-place.place-index c.args.chosen.now c.loop-place-test.false in
    let alike = first-alike c.args.book.now.seat_count (λ at. not (has_seat c.loop-place.taken at))
    (is_free c.args.book.now.players c.args.chosen.now c.args.table) c.args.book.now.seat_count
    (omega (arith, seats.some_seats))
    (λ at first last. ap not (c.loop-place.invariant.taken at first (omega (arith, last, seats.most_seats))
    ∙ ap (λ chosen. is_some (player_at c.args.book.now.players (record { table = c.args.table; seat = at }))
    || list_any (is_same_place (record { table = c.args.table; seat = at })) chosen) all)
    ∙ not-or (is_some (player_at c.args.book.now.players (record { table = c.args.table; seat = at })))
    (list_any (is_same_place (record { table = c.args.table; seat = at })) c.args.chosen.now)) in
    sym alike ∙ rw c.seat_count-seats.ensures.seats at c.empty_seat_after.ensures.next
