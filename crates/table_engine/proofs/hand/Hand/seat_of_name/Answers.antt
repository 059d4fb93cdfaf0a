use Rattle.std.proofs.Common.{◌≡◌, Some, sym}
use Rattle.table_engine.specs.Hands.{name_in_seat}
use Rattle.table_engine.proofs.DueNames.{seat-of_named}
use Rattle.table_engine.proofs.hand.Hand.seat_of_name.Goals as goal

pub returns-then-has_in_seat-clause-seat : goal.returns-then-has_in_seat-clause-seat
returns-then-has_in_seat-clause-seat c =
    let named : name_in_seat c.self.inside.start c.in-Some.seat ≡ Some c.args.name =
    c.has_in_seat.ensures c.if-has_in_seat.true in
    rw (← c.self.view_is) (sym (seat-of_named c.self.inside.start c.in-Some.seat c.args.name
    c.self.invariant.lawful.names named))
