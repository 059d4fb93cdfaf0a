use Rattle.std.proofs.Common.{◌≤◌, Some, arith, rules}
use Rattle.std.specs.Prelude.{vec_len}
use Rattle.std.proofs.lemmas.List.Elements.{All-pop, All-push, All-same}
use Rattle.floor_crew.specs.Working.{IsIdleDesk}
use Rattle.floor_crew.proofs.Dealing.{desk-dealt}
use Rattle.floor_crew.proofs.passes.Pack.deal_desks.Goals as goal

pub loop-preserved : goal.loop-preserved
loop-preserved c = record {
  books = omega (arith, c.take_last-book.ensures.fewer, c.loop.invariant.books);
  rows = omega (arith, c.take_last-row.ensures.fewer, c.loop.invariant.rows);
  count = omega (arith, c.push_reserved.ensures.len, c.loop.invariant.count);
  room = omega (arith, c.push_reserved.ensures.capacity, c.loop.invariant.room);
  short = λ most each.
      (All-pop (λ row. vec_len row ≤ most) c.loop.self.rows.items c.take_last-row.new.row.items
      (Some c.take_last-row.result) c.take_last-row.ensures.last (c.loop.invariant.short most each)).0;
  dealt = λ floor pack.
      let before = c.loop.invariant.dealt floor pack in
      let one = desk-dealt floor c.loop.self _ c.new.result (search rules) (search rules) before.0 in (
        one.0,
        All-same (IsIdleDesk floor) c.push_reserved.new.self.items _ c.push_reserved.ensures.items
            (All-push (IsIdleDesk floor) c.loop.desks.items c.new.result before.1 one.1),
      );
}

pub returns-clause-dealt : goal.returns-clause-dealt
returns-clause-dealt c floor pack = let dealt = c.loop.invariant.dealt floor pack in (dealt.1, dealt.0)
