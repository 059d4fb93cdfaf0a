use Rattle.std.proofs.Common.{rules, ◌∙◌, ◌+◌, ◌<◌, ap, subst, List, length, get_or, length-set, arith}
use Rattle.seat_book.specs.declared.place.Place.{Place}
use Rattle.balance_rule.specs.Filling.{count_with}
use Rattle.break_draw.proofs.Room.{filled-length, filled-more}
use Rattle.break_draw.proofs.Counting.{counts-after, count-read}
use Rattle.break_draw.proofs.filling.fill_seats.Goals as goal

pub next_to_fill-place-requires-clause-filled : goal.next_to_fill-place-requires-clause-filled
next_to_fill-place-requires-clause-filled c =
    rw (
      c.places.ensures,
      filled-length c.args.book.now c.args.table c.loop-chosen._chosen c.loop-chosen.fill
          c.loop-chosen.invariant.chosen,
    ) c.loop-chosen.invariant.chosen

pub next_to_fill-place-requires-clause-room : goal.next_to_fill-place-requires-clause-room
next_to_fill-place-requires-clause-room c =
    let len = ap length c.places.ensures in
    let chosen = filled-length c.args.book.now c.args.table c.loop-chosen._chosen c.loop-chosen.fill
    c.loop-chosen.invariant.chosen in
    omega (
      arith,
      len,
      chosen,
      c.loop-chosen-test.true,
      c.if-empty_elsewhere-from.false,
      c.from.ensures,
      c.empty_elsewhere.ensures,
    )

pub push-requires : goal.push-requires
push-requires c =
    let chosen = filled-length c.args.book.now c.args.table c.loop-chosen._chosen c.loop-chosen.fill
    c.loop-chosen.invariant.chosen in
    omega (
      arith,
      chosen,
      c.loop-chosen-test.true,
      c.count-players.ensures.most,
      c.counts_of-counts.ensures.lawful.most_seats,
    )

pub bounds-counts-from : goal.bounds-counts-from
bounds-counts-from c = omega (
  arith,
  c.from-in-loop-chosen.ensures,
  c.next_to_fill-place.ensures.table.last,
  c.next_to_fill-place.ensures.table.first,
  c.counts_of-counts.ensures.lawful.most_tables,
)

pub overflow_add-counts : goal.overflow_add-counts
overflow_add-counts c =
    let read = count-read c.args.book.now.table_count c.args.book.now.players c.loop-chosen.fill
    c.next_to_fill-place.result.table c.from-in-loop-chosen.result c.loop-chosen.counts c.loop-chosen.invariant.counts
    c.next_to_fill-place.ensures.table c.from-in-loop-chosen.ensures in
    let room : count_with c.args.book.now.players c.loop-chosen.fill c.next_to_fill-place.result.table
    < c.args.book.now.seat_count = subst (λ (chosen : List Place). count_with c.args.book.now.players chosen
    c.next_to_fill-place.result.table < c.args.book.now.seat_count) c.places.ensures
    c.next_to_fill-place.ensures.room in
    omega (arith, read, room, c.counts_of-counts.ensures.lawful.most_seats)

pub bounds-counts-from-in-loop-chosen : goal.bounds-counts-from-in-loop-chosen
bounds-counts-from-in-loop-chosen c = omega (
  arith,
  c.from-in-loop-chosen.ensures,
  c.next_to_fill-place.ensures.table.last,
  c.next_to_fill-place.ensures.table.first,
  c.counts_of-counts.ensures.lawful.most_tables,
)

pub loop-chosen-preserved : goal.loop-chosen-preserved
loop-chosen-preserved c =
    let next = rw c.places.ensures at c.next_to_fill-place.ensures.next in
    let items = c.push.ensures in
    record {
      chosen = rw items (filled-more c.args.book.now c.args.table c.loop-chosen._chosen c.loop-chosen.fill
          c.next_to_fill-place.result c.loop-chosen.invariant.chosen next);
      counts = rw items (counts-after c.args.book.now.table_count c.args.book.now.players c.loop-chosen.fill
          c.next_to_fill-place.result c.loop-chosen.counts c.from-in-loop-chosen.result c.loop-chosen.invariant.counts
          c.next_to_fill-place.ensures.table (omega (
            arith,
            c.loop-chosen.invariant.size,
            c.counts_of-counts.ensures.lawful.most_tables,
          )) c.from-in-loop-chosen.ensures);
      size = length-set c.loop-chosen.counts c.from-in-loop-chosen.result
          (get_or c.loop-chosen.counts c.from-in-loop-chosen.result 0 + 1) ∙ c.loop-chosen.invariant.size;
    }

pub returns-then-empty_elsewhere-from-clause-no_room : goal.returns-then-empty_elsewhere-from-clause-no_room
returns-then-empty_elsewhere-from-clause-no_room c = search rules
