use Rattle.std.proofs.Common.{◌∙◌, sym, ap, subst, map, arith}
use Rattle.std.proofs.lemmas.List.{take_all}
use Rattle.rulebook.proofs.Found.{none-found}
use Rattle.button_blinds.specs.SeatSets.{AreSeatsOf, no_seats, with_seat, with_seats, seat_count}
use Rattle.seat_book.proofs.TakenSeats.{slot-place, seats_in, seats_in-more, seats_in-empty, taken_count-seating}
use Rattle.seat_book.proofs.seat_book.SeatBook.occupied.Goals.{in-Some, in_default}
use Rattle.seat_book.proofs.seat_book.SeatBook.occupied.Goals as goal

pub with-taken-requires-clause-first : goal.with-taken-requires-clause-first
with-taken-requires-clause-first c =
    let place = slot-place c.args.self.now c.args.table c.loop-slot.slot-index c.table_slots-slot-items.result.now
    c.slot-item.result c.in-Some.seated c.table_slots-slot-items.ensures.lawful
    c.table_slots-slot-items.ensures.players
    c.slot-item.is c.loop-slot-test.true c.in-Some.is in
    place.first

pub with-taken-requires-clause-last : goal.with-taken-requires-clause-last
with-taken-requires-clause-last c =
    let place = slot-place c.args.self.now c.args.table c.loop-slot.slot-index c.table_slots-slot-items.result.now
    c.slot-item.result c.in-Some.seated c.table_slots-slot-items.ensures.lawful
    c.table_slots-slot-items.ensures.players
    c.slot-item.is c.loop-slot-test.true c.in-Some.is in
    let last = place.last in
    let most = c.table_slots-slot-items.ensures.lawful.most_seats in
    omega (arith, last, most)

pub loop-slot-preserved : goal.loop-slot-preserved
loop-slot-preserved c = elim c.match-slot.branch [
  | in-Some w ↦
      let place = slot-place c.args.self.now c.args.table c.loop-slot.slot-index c.table_slots-slot-items.result.now
      c.slot-item.result w.in-Some.seated c.table_slots-slot-items.ensures.lawful
      c.table_slots-slot-items.ensures.players
      c.slot-item.is c.loop-slot-test.true w.in-Some.is in
      record {
        taken = w.taken-is ∙ (w.with-taken.ensures.same ∙ (ap (λ taken. with_seat taken w.in-Some.seated.place.seat)
            c.loop-slot.invariant.taken
            ∙ sym (seats_in-more c.loop-slot.slot-index c.table_slots-slot-items.result.now c.slot-item.result
            w.in-Some.seated c.loop-slot-test.true c.slot-item.is w.in-Some.is)));
        within = subst (AreSeatsOf c.args.self.now.seat_count) (sym w.taken-is)
            (w.with-taken.ensures.table c.args.self.now.seat_count c.loop-slot.invariant.within place.last);
      }
  | in_default w ↦ record {
    taken = w.taken-is ∙ (c.loop-slot.invariant.taken ∙ sym (seats_in-empty c.loop-slot.slot-index
        c.table_slots-slot-items.result.now c.slot-item.result c.loop-slot-test.true c.slot-item.is
        (none-found c.slot-item.result w.in_default.not-Some)));
    within = subst (AreSeatsOf c.args.self.now.seat_count) (sym w.taken-is) c.loop-slot.invariant.within;
  }
]

pub returns-clause-count : goal.returns-clause-count
returns-clause-count c =
    let all = take_all c.loop-slot.slot-index c.table_slots-slot-items.result.now c.loop-slot-test.false in
    let seats = c.loop-slot.invariant.taken ∙ (ap seats_in all ∙ ap
    (λ players. with_seats no_seats (map (λ seated. seated.place.seat) players))
    c.table_slots-slot-items.ensures.players) in
    ap seat_count seats ∙ taken_count-seating c.args.self.now c.args.table c.table_slots-slot-items.ensures.lawful
