use Rattle.std.proofs.Common.{◌+◌, ◌-◌, ◌≤◌, Some, arith}
use Rattle.std.specs.Prelude.{vec_len}
use Rattle.std.proofs.lemmas.List.Elements.{All-pop, All-weaker}
use Rattle.floor_crew.proofs.Dealing.{last-row}
use Rattle.floor_crew.proofs.floor.make_crew.Goals as goal

-- the row that is left is one of the pack's
pub deal_works-requires : goal.deal_works-requires
deal_works-requires c =
    let most = vec_len c.args.pack.books - c.args.desks in
    let row = All-pop (λ row. vec_len row ≤ most) c.deal_desks.new.self.rows.items c.take_last.new.row.items
    (Some c.take_last.result) c.take_last.ensures.last
    (c.in_ok-at_desks.ensures.short most
    (All-weaker (λ row. vec_len row + c.args.desks ≤ vec_len c.args.pack.books) (λ row. vec_len row ≤ most)
    (λ row short. omega (arith, short)) c.args.pack.rows.items c.requires.short)) in
    record {
      enough = omega (arith, row.1, c.in_ok-at_desks.ensures.left.0, c.requires.books.0);
      few = omega (arith, row.1, c.requires.books.1);
    }

pub returns : goal.returns
returns c floor pack =
    let dealt = c.in_ok-at_desks.ensures.dealt floor pack in
    record {
      works = c.in_ok-works.ensures floor dealt.1.of_book
          (last-row floor c.deal_desks.new.self c.take_last.new.row.items c.take_last.result c.take_last.ensures.last
          (omega (arith, c.in_ok-at_desks.ensures.left.1, c.requires.rows)) dealt.1);
      at_desks = dealt.0;
      each_desk = c.in_ok-at_desks.ensures.count;
    }
