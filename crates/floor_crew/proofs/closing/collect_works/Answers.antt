use Rattle.std.proofs.Common.{◌≡◌, ◌+◌, ◌∙◌, [], sym, ap, subst, length, map, arith}
use Rattle.std.specs.Vec.Iter.{into_iter_items}
use Rattle.std.proofs.lemmas.List.{length-map}
use Rattle.floor_crew.specs.declared.jobs.Work.{Work}
use Rattle.floor_crew.specs.declared.passes.Passes.{Passes}
use Rattle.floor_crew.specs.AtHand.{AreCollected}
use Rattle.floor_crew.proofs.Collecting.{works-collected, works-seen}
use Rattle.floor_crew.proofs.Spreading.{spread-grown}
use Rattle.floor_crew.proofs.Taking.{IsGathering, gathered-all, gathered-spread, gathering-none}
use Rattle.floor_crew.proofs.closing.collect_works.Goals as goal

pub loop-work-init : goal.loop-work-init
loop-work-init c =
    let gives = c.into_iter-work-iterator.ensures.into_iter_gives in
    let none = ap length c.requires.row.none in (
      tt,
      tt,
      record {
        left = ap length gives.0 ∙ (sym c.args.works.ok.0 ∙ sym gives.1);
        row = omega (arith, gives.1, c.requires.row.room, none, c.args.row.ok.0);
        of_book = omega (arith, gives.1, c.requires.room.of_book);
        gathering = gathering-none c.args.passes.now (into_iter_items c.into_iter-work-iterator.result)
            c.args.row.items c.requires.row.none;
      },
    )

pub returns : goal.returns
returns c =
    let was = c.loop-work.invariant.2 in
    let after : Passes = record { books = c.loop-work.passes.books; tables = c.spread.new.rows } in
    let all = subst (λ l. IsGathering c.args.passes.now l l [] c.loop-work.row.items c.loop-work.passes)
    c.into_iter-work-iterator.ensures.into_iter_gives.0
    (gathered-all c.args.passes.now (into_iter_items c.into_iter-work-iterator.result) c.loop-work.yielded
    (into_iter_items c.loop-work.work-iterator) c.loop-work.row.items c.loop-work.passes
    (was.left ∙ c.in-None.ensures.steps.0) was.gathering) in
    let spread = gathered-spread c.args.passes.now c.loop-work.passes after c.args.works.items c.loop-work.row.items
    all c.spread.ensures in
    let as_many : length c.args.works.items ≡ length c.args.passes.now.tables.items =
    omega (arith, c.requires.count, c.args.works.ok.0, c.args.passes.now.tables.ok.0) in
    record {
      books = all.books_are;
      count = omega (arith, spread.count, after.tables.ok.0, c.args.passes.now.tables.ok.0);
      rows = spread-grown c.args.passes.now.tables.items after.tables.items
          (map (λ (work : Work). work.dock) c.args.works.items) spread
          (length-map c.args.works.items (λ (work : Work). work.dock) ∙ as_many);
      collected = λ floor books each its had.
          subst (λ n. AreCollected floor (books + n) (each + 1) after) (sym c.args.works.ok.0)
          (works-collected c.args.passes.now after c.args.works.items all.books_are spread as_many floor books each its
          had);
      seen = works-seen c.args.passes.now after c.args.works.items all.books_are spread as_many;
    }
