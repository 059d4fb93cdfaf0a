use Rattle.std.proofs.Common.{◌∙◌, refl, rules}
use Rattle.seat_book.specs.Players.{players_in}
use Rattle.seat_book.proofs.Keeping.{slot-read, entry-found}
use Rattle.seat_book.proofs.seat_book.SeatBook.at.Goals as goal

pub returns-in_err-seated-clause-player : goal.returns-in_err-seated-clause-player
returns-in_err-seated-clause-player c =
    let place = rw (← c.self.view_is) at c.requires in
    let here = slot-read c.slot_of-slot.result c.index.result.now c.self.invariant place c.slot_of-slot.ensures
    c.index.ensures in
    rw (← c.self.view_is, here.0, c.in_err-seated.was) (search rules)

pub returns-clause-player : goal.returns-clause-player
returns-clause-player c =
    let place = rw (← c.self.view_is) at c.requires in
    let here = slot-read c.slot_of-slot.result c.index.result.now c.self.invariant place c.slot_of-slot.ensures
    c.index.ensures in
    rw (← c.self.view_is, here.0, c.in_ok-seated.was) refl

pub returns-clause-entry : goal.returns-clause-entry
returns-clause-entry c =
    let place = rw (← c.self.view_is) at c.requires in
    let here = slot-read c.slot_of-slot.result c.index.result.now c.self.invariant place c.slot_of-slot.ensures
    c.index.ensures in
    entry-found (players_in c.self.inside.slots.items) c.args.place c.in_ok-seated.seated c.self.invariant.entries
    (here.0 ∙ c.in_ok-seated.was)
