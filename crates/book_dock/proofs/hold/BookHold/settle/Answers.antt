use Rattle.std.proofs.Common.{◌≡◌, ◌∙◌, ◌+◌, ap, length, sym, subst, arith}
use Rattle.std.proofs.lemmas.Grind.{common_steps}
use Rattle.std.specs.Prelude.{false}
use Rattle.table_engine.specs.Results.{with_stacks}
use Rattle.table_engine.proofs.Stacks.{players-of_record}
use Rattle.tournament_events.specs.declared.event.Event.TheVariants as events
use Rattle.tournament_rules.specs.Books.{BookState}
use Rattle.dock_rules.specs.Kept.{owed}
use Rattle.book_dock.proofs.Booked.{few-after, has-in_book, owed-one}
use Rattle.book_dock.proofs.Carried.{settle-left}
use Rattle.book_dock.proofs.hold.BookHold.settle.Goals as goal

pub stacks_told-lines-requires-clause-few : goal.stacks_told-lines-requires-clause-few
stacks_told-lines-requires-clause-few c =
    let hold = c.args.self.now in
    let done = c.args.done in
    let out = has-in_book hold.journal.items hold.seed hold.book hold.kept c.args.caller done.start c.requires.has
    (sym c.is_stopped.ensures ∙ c.if-is_stopped.false) in
    let few = few-after hold.journal.items hold.seed hold.book hold.kept done out.0 in
    let same = ap length (players-of_record done c.requires.play) in
    omega (arith, few, same)

pub push_reserved-requires : goal.push_reserved-requires
push_reserved-requires c =
    let hold = c.args.self.now in
    let going : hold.book.stopped ≡ false = sym c.is_stopped.ensures ∙ c.if-is_stopped.false in
    let out = has-in_book hold.journal.items hold.seed hold.book hold.kept c.args.caller c.args.done.start
    c.requires.has
    going in
    let one = owed-one hold.journal.items hold.seed hold.book hold.kept c.args.done.start c.args.done.acts going
    out.0 in
    omega (arith, one, hold.room)

pub returns-clause-journal : goal.returns-clause-journal
returns-clause-journal c =
    let hold = c.args.self.now in
    let done = c.args.done in
    (settle-left hold.journal.items hold.seed hold.book hold.kept c.args.caller done c.from.result c.settle.new.self
    (with_stacks done.start.seats done.stacks) c.from_vec.result _ c.push_reserved.new.self.items c.requires.has c.requires.play
    (sym c.is_stopped.ensures ∙ c.if-is_stopped.false) c.from.ensures c.settle.ensures
    (players-of_record done c.requires.play) (c.from_vec.ensures ∙ c.stacks_told-lines.ensures)
    (λ i. record {
      caller = c.args.caller;
      seed = hold.seed;
      event = events.Settle c.from.result;
      serial = 0;
      acts = done.acts;
      stacks = c.from_vec.result;
    }) c.push_reserved.ensures.items).journal

pub invariant_of-self : goal.invariant_of-self
invariant_of-self c =
    let hold = c.args.self.now in
    let done = c.args.done in
    let going : hold.book.stopped ≡ false = sym c.is_stopped.ensures ∙ c.if-is_stopped.false in
    let left = settle-left hold.journal.items hold.seed hold.book hold.kept c.args.caller done c.from.result
    c.settle.new.self
    (with_stacks done.start.seats done.stacks) c.from_vec.result _ c.push_reserved.new.self.items c.requires.has c.requires.play
    going c.from.ensures c.settle.ensures
    (players-of_record done c.requires.play) (c.from_vec.ensures ∙ c.stacks_told-lines.ensures)
    (λ i. record {
      caller = c.args.caller;
      seed = hold.seed;
      event = events.Settle c.from.result;
      serial = 0;
      acts = done.acts;
      stacks = c.from_vec.result;
    }) c.push_reserved.ensures.items in
    let out = has-in_book hold.journal.items hold.seed hold.book hold.kept c.args.caller done.start c.requires.has
    going in
    let one = owed-one hold.journal.items hold.seed hold.book hold.kept done.start done.acts going out.0 in
    let fewer = subst (λ (book : BookState). owed book + 1 ≡ owed hold.book) (sym c.settle.ensures) one in
    let popped = rw c.unwrap-room.ensures at c.pop.ensures.len in
    let len = c.push_reserved.ensures.len in
    let capacity = c.push_reserved.ensures.capacity in
    record {
      kept = left.kept;
      room = omega (arith, fewer, len, capacity, hold.room);
      few = omega (arith, fewer, len, hold.few);
      rooms_owed = omega (arith, fewer, hold.rooms_owed, popped);
    }

pub stacks_told-lines-requires-clause-each : goal.stacks_told-lines-requires-clause-each
stacks_told-lines-requires-clause-each c = grind (arith, common_steps)

pub unwrap-room-requires : goal.unwrap-room-requires
unwrap-room-requires c = grind (arith, common_steps)
