use Rattle.std.proofs.Common.{◌≡◌, ◌+◌, sym, ap, subst, length, arith}
use Rattle.std.specs.Vec.Iter.{into_iter_items}
use Rattle.floor_crew.specs.declared.jobs.Work.{Work}
use Rattle.floor_crew.proofs.Dealing.{AreDealt, all-dealt, one-dealt}
use Rattle.floor_crew.proofs.passes.deal_works.Goals as goal

pub loop-dock-preserved : goal.loop-dock-preserved
loop-dock-preserved c =
    let was = c.loop-dock.invariant.2 in
    let took = c.in-Some.ensures.steps in
    let fewer = ap length took.0 in (
      tt,
      tt,
      record {
        enough = omega (arith, was.enough, took.1, c.take_last-book.ensures.fewer);
        few = omega (arith, was.few, took.1, c.push_reserved.ensures.len);
        room = omega (arith, was.room, took.1, c.push_reserved.ensures.len, c.push_reserved.ensures.capacity);
        left = omega (arith, was.left, took.1, fewer);
        dealt = λ floor books row.
            let work : Work = record {
              table = c.len-in-loop-dock.result + 1;
              book = c.take_last-book.result;
              dock = c.in-Some.dock;
            } in
            let number : work.table ≡ length c.loop-dock.works.items + 1 =
            omega (arith, c.len-in-loop-dock.ensures, c.loop-dock.works.ok.0) in
            subst (λ w. AreDealt floor w c.take_last-book.new.row.items (into_iter_items c.next.new.self))
            (sym c.push_reserved.ensures.items)
            (one-dealt floor c.loop-dock.works.items work c.loop-dock.books.items c.take_last-book.new.row.items
            (into_iter_items c.next.new.self) number c.take_last-book.ensures.last
            (subst (λ r. AreDealt floor c.loop-dock.works.items c.loop-dock.books.items r) took.0
            (was.dealt floor books row)));
      },
    )

pub returns : goal.returns
returns c floor books row =
    let was = c.loop-dock.invariant.2 in
    all-dealt floor c.loop-dock.works.items c.loop-dock.books.items (into_iter_items c.loop-dock.dock-iterator)
    (omega (arith, was.left, c.in-None.ensures.steps.0))
    (was.dealt floor books (rw c.into_iter-dock-iterator.ensures.into_iter_gives.0 row))
