use Rattle.std.proofs.Common.{◌≡◌, ◌+◌, ◌≤◌, sym, ap, subst, length, map, arith, ◌∙◌, [], ◌∷◌, ◌++◌}
use Rattle.std.specs.Prelude.{All, Bool, List, vec_len}
use Rattle.std.specs.Vec.Iter.{into_iter_items, into_iter_len}
use Rattle.std.specs.List.{filter_map}
use Rattle.session_desk.specs.Desks.{AreLater, IsDeskOf, of_table, sights}
use Rattle.floor_crew.specs.declared.jobs.Attended.{Attended}
use Rattle.floor_crew.specs.AtHand.{AreCollected, HasRoom}
use Rattle.floor_crew.specs.Rows.{HaveGrown}
use Rattle.floor_crew.proofs.Collecting.{room-fewer}
use Rattle.floor_crew.proofs.Taking.{IsTaking, split-long, taken-all, taking-none, taking-one}
use Rattle.floor_crew.proofs.closing.take_doors.Goals as goal

pub loop-one-init : goal.loop-one-init
loop-one-init g c =
    let gives = c.into_iter-one-iterator.ensures.into_iter_gives in
    let none = ap length c.requires.doors.none in
    let none' = ap length c.requires.failed.none in (
      tt,
      tt,
      record {
        left = ap length gives.0 ∙ (sym c.args.attended.ok.0 ∙ sym gives.1);
        doors = omega (arith, gives.1, c.requires.doors.room, none, c.args.room.doors.ok.0);
        failed = omega (arith, gives.1, c.requires.failed.room, none', c.args.room.failed.ok.0);
        taking = taking-none c.args.passes.now (into_iter_items c.into_iter-one-iterator.result)
            c.args.room.doors.items c.args.room.failed.items c.requires.doors.none c.requires.failed.none;
      },
    )

pub collect_desk-requires-clause-room : goal.collect_desk-requires-clause-room
collect_desk-requires-clause-room g c =
    let was = c.loop-one.invariant.2 in
    let gives = c.into_iter-one-iterator.ensures.into_iter_gives in
    let took = c.in-Some.ensures.steps in
    let long = split-long (into_iter_items c.into_iter-one-iterator.result) c.loop-one.yielded
    (into_iter_items c.loop-one.one-iterator) was.taking.split in
    let all = ap length gives.0 in
    let size : vec_len c.args.attended ≡ into_iter_len c.loop-one.one-iterator + length c.loop-one.yielded =
    omega (arith, c.args.attended.ok.0, all, long, was.left) in
    let some : 1 ≤ into_iter_len c.loop-one.one-iterator = omega (arith, took.1) in
    room-fewer (into_iter_len c.loop-one.one-iterator) (into_iter_len c.loop-one.one-iterator) 1 1 c.loop-one.passes
    some some
    (was.taking.room (into_iter_len c.loop-one.one-iterator) (into_iter_len c.loop-one.one-iterator)
    (subst (λ n. HasRoom n n c.args.passes.now) size c.requires.room))

pub loop-one-preserved : goal.loop-one-preserved
loop-one-preserved g c =
    let was = c.loop-one.invariant.2 in
    let took = c.in-Some.ensures.steps in
    let fewer = ap length took.0 in
    let left = into_iter_items c.next.new.self in (
      tt,
      tt,
      record {
        left = omega (arith, was.left, took.1, fewer);
        doors = omega (arith, was.doors, took.1, c.push_reserved.ensures.len, c.push_reserved.ensures.capacity);
        failed = omega (
          arith,
          was.failed,
          took.1,
          c.push_reserved-in-loop-one.ensures.len,
          c.push_reserved-in-loop-one.ensures.capacity,
        );
        taking = subst (λ (p : List g.row.D.Denot × List Bool). IsTaking c.args.passes.now
            (into_iter_items c.into_iter-one-iterator.result) (c.loop-one.yielded ++ c.in-Some.one ∷ []) left p.0 p.1
            c.collect_desk.new.self)
            (λ i. (sym c.push_reserved.ensures.items i, sym c.push_reserved-in-loop-one.ensures.items i))
            (taking-one c.args.passes.now (into_iter_items c.into_iter-one-iterator.result) c.loop-one.yielded left
            c.in-Some.one c.loop-one.back.doors.items c.loop-one.back.failed.items c.loop-one.passes
            c.collect_desk.new.self c.collect_desk.ensures.count c.collect_desk.ensures.books c.collect_desk.ensures.rows
            c.collect_desk.ensures.room
            c.collect_desk.ensures.collected c.collect_desk.ensures.seen
            (subst (λ l. IsTaking c.args.passes.now (into_iter_items c.into_iter-one-iterator.result) c.loop-one.yielded
            l c.loop-one.back.doors.items c.loop-one.back.failed.items c.loop-one.passes) took.0 was.taking));
      },
    )

pub returns : goal.returns
returns g c =
    let was = c.loop-one.invariant.2 in
    let gives = c.into_iter-one-iterator.ensures.into_iter_gives in
    let all = taken-all (into_iter_items c.into_iter-one-iterator.result) c.loop-one.yielded
    (into_iter_items c.loop-one.one-iterator) was.taking.split (was.left ∙ c.in-None.ensures.steps.0) ∙ gives.0 in
    let many = ap length all in
    record {
      doors = was.taking.doors_are ∙ ap (map (λ (one : Attended g.row.D.Denot). one.door)) all;
      failed = was.taking.failed_are ∙ ap (map (λ (one : Attended g.row.D.Denot). one.failed)) all;
      count = was.taking.count;
      books = was.taking.books_are
          ∙ ap (λ l. c.args.passes.now.books.items ++ map (λ (one : Attended g.row.D.Denot). one.desk.book) l) all;
      rows = subst (λ l. HaveGrown c.args.passes.now.tables.items c.loop-one.passes.tables.items
          (λ table. filter_map (λ (one : Attended g.row.D.Denot). of_table one.desk.tables.items table) l)) all
          was.taking.rows;
      room = λ books each room. was.taking.room books each
          (subst (λ n. HasRoom (books + n) (each + n) c.args.passes.now) (c.args.attended.ok.0 ∙ sym many) room);
      collected = λ floor books each its had.
          subst (λ n. AreCollected floor (books + n) (each + n) c.loop-one.passes) (many ∙ sym c.args.attended.ok.0)
          (was.taking.collected floor books each
          (subst (All (λ (one : Attended g.row.D.Denot). IsDeskOf floor.book floor.docks.items one.desk)) (sym all) its)
          had);
      seen = λ end each.
          let seen = was.taking.seen end each in
          (subst (All (λ (one : Attended g.row.D.Denot). AreLater (sights one.desk) end)) all seen.0, seen.1);
    }
