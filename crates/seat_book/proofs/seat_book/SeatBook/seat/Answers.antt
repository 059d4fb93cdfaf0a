use Rattle.std.proofs.Common.{ap, List, arith}
use Rattle.seat_book.specs.declared.seated.Seated.{Seated}
use Rattle.seat_book.proofs.Keeping.{IsSeating-kept, count-kept}
use Rattle.seat_book.proofs.Calls.{seat-keeps, seat-seats}
use Rattle.seat_book.proofs.seat_book.SeatBook.seat.Goals as goal

pub overflow_add-index_mut : goal.overflow_add-index_mut
overflow_add-index_mut c =
    let place = rw (← c.self.view_is) at c.requires.place in
    let counted = count-kept c.table_index.result c.index_mut-3.result.now c.self.invariant place.table
    c.table_index.ensures c.index_mut-3.ensures.value in
    let most = c.self.invariant.most_seats in
    omega (arith, counted.2, most)

pub invariant_of-self : goal.invariant_of-self
invariant_of-self c =
    let requires = rw (← c.self.view_is) at c.requires in
    seat-keeps c.self.invariant (record {
      place = c.args.place;
      player = c.args.player;
      name = c.args.name;
      stack =
          c.args.stack;
    }) c.slot_of-slot.result c.table_index.result c.index_mut-3.result.now
    requires.place c.slot_of-slot.ensures c.table_index.ensures c.index_mut-3.ensures.value requires.entry
    requires.empty requires.stands

pub returns-clause-same : goal.returns-clause-same
returns-clause-same c =
    let requires = rw (← c.self.view_is) at c.requires in
    let players = seat-seats c.self.invariant (record {
      place = c.args.place;
      player = c.args.player;
      name =
          c.args.name;
      stack = c.args.stack;
    }) c.slot_of-slot.result c.table_index.result c.index_mut-3.result.now
    requires.place c.slot_of-slot.ensures requires.empty in
    rw (← c.self.view_is) (ap (λ (players : List Seated). record {
      table_count = c.self.inside.table_count;
      seat_count = c.self.inside.seat_count;
      players = players;
      tables =
          c.self.inside.statuses.items;
      hands = c.self.inside.hands;
    }) players)

pub returns-clause-lawful : goal.returns-clause-lawful
returns-clause-lawful c =
    let requires = rw (← c.self.view_is) at c.requires in
    IsSeating-kept c.self.inside.hands (seat-keeps c.self.invariant
    (record { place = c.args.place; player = c.args.player; name = c.args.name; stack = c.args.stack })
    c.slot_of-slot.result c.table_index.result c.index_mut-3.result.now
    requires.place c.slot_of-slot.ensures c.table_index.ensures c.index_mut-3.ensures.value requires.entry
    requires.empty requires.stands)
