use Rattle.std.proofs.Common.{◌∙◌, sym, arith}
use Rattle.book_dock.proofs.Booked.{memory-exit, order-refusal, refused-exit}
use Rattle.book_dock.proofs.Carried.{order-left}
use Rattle.book_dock.proofs.hold.BookHold.take.Goals as goal

pub invariant_of-self-2 : goal.invariant_of-self-2
invariant_of-self-2 c =
    let hold = c.args.self.now in
    let left = order-left hold.journal.items hold.seed hold.book hold.kept c.args.caller c.args.event c.order.new.self
    c.from_vec.result _ c.take_room.new.journal.items c.push_reserved.new.self.items c.requires.order c.requires.drawn
    c.in_ok-check_order.ensures.ok c.in_ok-order.ensures.state (c.from_vec.ensures ∙ c.stacks_told-stacks.ensures)
    (λ i. record {
      caller = c.args.caller;
      seed = hold.seed;
      event = c.args.event;
      serial = 0;
      acts = c.new.ensures i;
      stacks = c.from_vec.result;
    }) c.take_room.ensures.items c.push_reserved.ensures.items in
    let len = c.push_reserved.ensures.len in
    let capacity = c.push_reserved.ensures.capacity in
    record {
      kept = left.kept;
      room = omega (arith, left.few, len, capacity, c.take_room.ensures.len, c.in_ok-take_room.ensures.room);
      few = omega (arith, left.few, len, c.take_room.ensures.len, c.in_ok-take_room.ensures.few);
      rooms_owed = omega (arith, left.more, hold.rooms_owed);
    }

pub returns-in_err-check_order-clause-answer : goal.returns-in_err-check_order-clause-answer
returns-in_err-check_order-clause-answer c =
    let hold = c.args.self.now in
    refused-exit _ c.in_err-check_order.field-0.0 c.from_residual.result
    (sym (order-refusal hold.journal.items hold.seed hold.book hold.kept c.args.event c.requires.order)
    ∙ c.in_err-check_order.ensures.err)
    c.from_residual.ensures.0 c.from_residual.ensures.1

pub returns-in_err-room-clause-answer : goal.returns-in_err-room-clause-answer
returns-in_err-room-clause-answer c =
    let hold = c.args.self.now in
    memory-exit _ c.from_residual-in_err-room.result
    (sym (order-refusal hold.journal.items hold.seed hold.book hold.kept c.args.event c.requires.order)
    ∙ c.in_ok-check_order.ensures.ok)
    c.from_residual-in_err-room.ensures.0 c.from_residual-in_err-room.ensures.1

pub returns-in_err-take_room-clause-answer : goal.returns-in_err-take_room-clause-answer
returns-in_err-take_room-clause-answer c =
    let hold = c.args.self.now in
    memory-exit _ c.from_residual-in_err-take_room.result
    (sym (order-refusal hold.journal.items hold.seed hold.book hold.kept c.args.event c.requires.order)
    ∙ c.in_ok-check_order.ensures.ok)
    c.from_residual-in_err-take_room.ensures.0 c.from_residual-in_err-take_room.ensures.1

pub returns-in_err-order-clause-answer : goal.returns-in_err-order-clause-answer
returns-in_err-order-clause-answer c =
    let hold = c.args.self.now in
    memory-exit _ c.from_residual-in_err-order.result
    (sym (order-refusal hold.journal.items hold.seed hold.book hold.kept c.args.event c.requires.order)
    ∙ c.in_ok-check_order.ensures.ok)
    c.from_residual-in_err-order.ensures.0 c.from_residual-in_err-order.ensures.1

pub returns-clause-answer : goal.returns-clause-answer
returns-clause-answer c =
    let hold = c.args.self.now in
    sym (order-refusal hold.journal.items hold.seed hold.book hold.kept c.args.event c.requires.order)
    ∙ c.in_ok-check_order.ensures.ok
