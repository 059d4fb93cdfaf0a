use Rattle.std.proofs.Common.{ap, List}
use Rattle.seat_book.specs.declared.seated.Seated.{Seated}
use Rattle.seat_book.proofs.Keeping.{IsSeating-kept}
use Rattle.seat_book.proofs.Calls.{stack-keeps, stack-seats, stack-sits}
use Rattle.seat_book.proofs.seat_book.SeatBook.set_stack.Goals as goal

pub unwrap-seated-requires : goal.unwrap-seated-requires
unwrap-seated-requires c =
    let requires = rw (← c.self.view_is) at c.requires in
    stack-sits c.self.invariant c.args.place c.slot_of-slot.result c.index.result.now requires.place
    c.slot_of-slot.ensures c.index.ensures requires.sits

pub invariant_of-self : goal.invariant_of-self
invariant_of-self c =
    let requires = rw (← c.self.view_is) at c.requires in
    stack-keeps c.self.invariant c.args.place c.unwrap-seated.result c.slot_of-slot.result c.args.stack
    c.index.result.now requires.place c.slot_of-slot.ensures c.index.ensures c.unwrap-seated.ensures

pub returns-clause-same : goal.returns-clause-same
returns-clause-same c =
    let requires = rw (← c.self.view_is) at c.requires in
    let players = stack-seats c.self.invariant c.args.place c.unwrap-seated.result c.slot_of-slot.result c.args.stack
    c.index.result.now requires.place c.slot_of-slot.ensures c.index.ensures c.unwrap-seated.ensures in
    rw (← c.self.view_is) (ap (λ (players : List Seated). record {
      table_count = c.self.inside.table_count;
      seat_count = c.self.inside.seat_count;
      players = players;
      tables =
          c.self.inside.statuses.items;
      hands = c.self.inside.hands;
    }) players)

pub returns-clause-lawful : goal.returns-clause-lawful
returns-clause-lawful c =
    let requires = rw (← c.self.view_is) at c.requires in
    IsSeating-kept c.self.inside.hands (stack-keeps c.self.invariant c.args.place c.unwrap-seated.result
    c.slot_of-slot.result c.args.stack c.index.result.now requires.place c.slot_of-slot.ensures c.index.ensures
    c.unwrap-seated.ensures)
