use Rattle.std.proofs.Common.{◌≡◌, ◌∙◌, ◌+◌, ℕ, [], ap, refl, sym, arith}
use Rattle.std.specs.Prelude.{Err}
use Rattle.table_engine.specs.declared.start.HandStart.{HandStart}
use Rattle.table_engine.specs.Hands.{HandTerms}
use Rattle.tournament_events.specs.declared.event.Event.TheVariants as events
use Rattle.tournament_rules.specs.Dealing.{next_start}
use Rattle.book_dock.proofs.Booked.{answer-same, hand-is, handed-exit, memory-exit, refused-exit}
use Rattle.dock_rules.specs.Journals.{next_row, tale_of}
use Rattle.book_dock.proofs.Carried.{begin-free, begin-has, begin-left, begin-refused, row-distinct}
use Rattle.book_dock.proofs.hold.BookHold.begin.Goals as goal

pub returns-clause-hand : goal.returns-clause-hand
returns-clause-hand c =
    let hold = c.args.self.now in
    let row = c.next_row-row.result in
    let made : ℕ → HandTerms = λ table. record { start = next_start hold.book table row.cards; acts = [] } in
    c.in_ok-hand.ensures.hand ∙ ap made c.from-number.ensures
    ∙ sym (hand-is hold.journal.items hold.seed hold.book hold.kept c.args.table row c.next_row-row.ensures)

pub returns-clause-has : goal.returns-clause-has
returns-clause-has c =
    let hold = c.args.self.now in
    let counted : c.start.result.now.serial ≡ hold.book.begun + 1 =
    ap (λ (start : HandStart). start.serial) c.start.ensures.same
    ∙ ap (λ (hand : HandTerms). hand.start.serial) c.in_ok-hand.ensures.hand in
    let left = begin-left hold.journal.items hold.seed hold.book hold.kept c.args.caller c.args.table
    c.from-number.result c.next_row-row.result c.next_row-row.ensures c.from-number.ensures
    (c.in_ok-check_table_begins.ensures.ok c.next_row-row.result (row-distinct hold.journal.items c.next_row-row.result
    c.next_row-row.ensures)) c.begin.new.self c.start.result.now.serial _ c.take_room.new.journal.items
    c.push_reserved-2.new.self.items c.in_ok-hand.ensures.state counted
    (λ i. record {
      caller = c.args.caller;
      seed = hold.seed;
      event = events.Begin c.from-number.result c.next_row-row.result;
      serial = c.start.result.now.serial;
      acts = c.new-2.ensures i;
      stacks = c.new-3.ensures i;
    }) c.take_room.ensures.items c.push_reserved-2.ensures.items in
    begin-has hold.journal.items hold.seed hold.book hold.kept c.args.caller c.args.table
    c.from-number.result c.next_row-row.result c.next_row-row.ensures c.from-number.ensures
    (c.in_ok-check_table_begins.ensures.ok c.next_row-row.result (row-distinct hold.journal.items c.next_row-row.result
    c.next_row-row.ensures)) c.in_ok-hand.hand.start c.push_reserved-2.new.self.items
    (ap (λ (hand : HandTerms). hand.start) c.in_ok-hand.ensures.hand) c.in_ok-hand.ensures.within left.journal

pub invariant_of-self-2 : goal.invariant_of-self-2
invariant_of-self-2 c =
    let hold = c.args.self.now in
    let counted : c.start.result.now.serial ≡ hold.book.begun + 1 =
    ap (λ (start : HandStart). start.serial) c.start.ensures.same
    ∙ ap (λ (hand : HandTerms). hand.start.serial) c.in_ok-hand.ensures.hand in
    let left = begin-left hold.journal.items hold.seed hold.book hold.kept c.args.caller c.args.table
    c.from-number.result c.next_row-row.result c.next_row-row.ensures c.from-number.ensures
    (c.in_ok-check_table_begins.ensures.ok c.next_row-row.result (row-distinct hold.journal.items c.next_row-row.result
    c.next_row-row.ensures)) c.begin.new.self c.start.result.now.serial _ c.take_room.new.journal.items
    c.push_reserved-2.new.self.items c.in_ok-hand.ensures.state counted
    (λ i. record {
      caller = c.args.caller;
      seed = hold.seed;
      event = events.Begin c.from-number.result c.next_row-row.result;
      serial = c.start.result.now.serial;
      acts = c.new-2.ensures i;
      stacks = c.new-3.ensures i;
    }) c.take_room.ensures.items c.push_reserved-2.ensures.items in
    let len = c.push_reserved-2.ensures.len in
    let capacity = c.push_reserved-2.ensures.capacity in
    record {
      kept = left.kept;
      room = omega (arith, left.few, len, capacity, c.take_room.ensures.len, c.in_ok-take_room.ensures.room);
      few = omega (arith, left.few, len, c.take_room.ensures.len, c.in_ok-take_room.ensures.few);
      rooms_owed = omega (arith, left.more, hold.rooms_owed, c.push_reserved.ensures.len, c.reserve.ensures.len);
    }

pub returns-in_err-check_table_begins-clause-answer : goal.returns-in_err-check_table_begins-clause-answer
returns-in_err-check_table_begins-clause-answer c =
    let hold = c.args.self.now in
    let row = next_row (tale_of hold.journal.items) in
    refused-exit _ c.in_err-check_table_begins.field-0.0 c.from_residual.result
    (sym (begin-refused hold.journal.items hold.seed hold.book hold.kept c.args.table c.from-number.result row refl
    c.from-number.ensures) ∙ c.in_err-check_table_begins.ensures.err row)
    c.from_residual.ensures.0 c.from_residual.ensures.1

pub returns-in_err-room-clause-answer : goal.returns-in_err-room-clause-answer
returns-in_err-room-clause-answer c =
    let hold = c.args.self.now in
    memory-exit _ c.from_residual-in_err-room.result
    (begin-free hold.journal.items hold.seed hold.book hold.kept c.args.table c.from-number.result
    c.from-number.ensures c.in_ok-check_table_begins.ensures.ok)
    c.from_residual-in_err-room.ensures.0 c.from_residual-in_err-room.ensures.1

pub returns-in_err-reserve-clause-answer : goal.returns-in_err-reserve-clause-answer
returns-in_err-reserve-clause-answer c =
    let hold = c.args.self.now in
    memory-exit _ c.from_residual-in_err-reserve.result
    (begin-free hold.journal.items hold.seed hold.book hold.kept c.args.table c.from-number.result
    c.from-number.ensures c.in_ok-check_table_begins.ensures.ok)
    c.from_residual-in_err-reserve.ensures.0 c.from_residual-in_err-reserve.ensures.1

pub returns-in_err-take_room-clause-answer : goal.returns-in_err-take_room-clause-answer
returns-in_err-take_room-clause-answer c =
    let hold = c.args.self.now in
    memory-exit _ c.from_residual-in_err-take_room.result
    (begin-free hold.journal.items hold.seed hold.book hold.kept c.args.table c.from-number.result
    c.from-number.ensures c.in_ok-check_table_begins.ensures.ok)
    c.from_residual-in_err-take_room.ensures.0 c.from_residual-in_err-take_room.ensures.1

pub returns-clause-answer : goal.returns-clause-answer
returns-clause-answer c =
    let hold = c.args.self.now in
    begin-free hold.journal.items hold.seed hold.book hold.kept c.args.table c.from-number.result
    c.from-number.ensures c.in_ok-check_table_begins.ensures.ok

pub returns-in_err-hand-clause-answer : goal.returns-in_err-hand-clause-answer
returns-in_err-hand-clause-answer c =
    let hold = c.args.self.now in
    handed-exit _ c.in_err-hand.field-0.0 c.from_residual-in_err-hand.result
    (answer-same {T = HandTerms} _ _ (Err c.in_err-hand.field-0.0)
    (begin-refused hold.journal.items hold.seed hold.book hold.kept c.args.table
    c.from-number.result c.next_row-row.result c.next_row-row.ensures c.from-number.ensures)
    c.in_err-hand.ensures.answer) c.from_residual-in_err-hand.ensures.0 c.from_residual-in_err-hand.ensures.1
