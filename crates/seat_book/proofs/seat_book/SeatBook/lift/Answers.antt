use Rattle.std.proofs.Common.{ap, List}
use Rattle.seat_book.specs.declared.seated.Seated.{Seated}
use Rattle.seat_book.proofs.Keeping.{IsSeating-kept}
use Rattle.seat_book.proofs.Calls.{lift-keeps, lift-seats, lift-counted}
use Rattle.seat_book.proofs.seat_book.SeatBook.lift.Goals as goal

pub overflow_sub-index_mut : goal.overflow_sub-index_mut
overflow_sub-index_mut c =
    let found = rw (← c.self.view_is) at c.seated-stack.ensures in
    lift-counted c.self.invariant c.seated-stack.result c.args.player c.slot_of.result c.table_index.result
    c.index_mut-3.result.now found.place c.slot_of.ensures found.player c.table_index.ensures
    c.index_mut-3.ensures.value

pub invariant_of-self : goal.invariant_of-self
invariant_of-self c =
    let found = rw (← c.self.view_is) at c.seated-stack.ensures in
    lift-keeps c.self.invariant c.seated-stack.result c.args.player c.slot_of.result c.table_index.result
    c.index_mut-3.result.now found.place c.slot_of.ensures found.player c.table_index.ensures
    c.index_mut-3.ensures.value c.requires.entry

pub returns-clause-same : goal.returns-clause-same
returns-clause-same c =
    let found = rw (← c.self.view_is) at c.seated-stack.ensures in
    let players = lift-seats c.self.invariant c.seated-stack.result c.args.player c.slot_of.result
    c.table_index.result c.index_mut-3.result.now found.place c.slot_of.ensures found.player in
    rw (← c.self.view_is) (ap (λ (players : List Seated). record {
      table_count = c.self.inside.table_count;
      seat_count = c.self.inside.seat_count;
      players = players;
      tables =
          c.self.inside.statuses.items;
      hands = c.self.inside.hands;
    }) players)

pub returns-clause-lawful : goal.returns-clause-lawful
returns-clause-lawful c =
    let found = rw (← c.self.view_is) at c.seated-stack.ensures in
    IsSeating-kept c.self.inside.hands (lift-keeps c.self.invariant c.seated-stack.result c.args.player
    c.slot_of.result c.table_index.result c.index_mut-3.result.now found.place c.slot_of.ensures found.player
    c.table_index.ensures c.index_mut-3.ensures.value c.requires.entry)
