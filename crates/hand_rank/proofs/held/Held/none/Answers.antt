use Rattle.std.proofs.Common.{◌≡◌, length, rules, arith}
use Rattle.hand_rank.proofs.held.Held.none.Goals as goal

pub returns : goal.returns
returns c once =
    let seven : length c.args.board ≡ 7 = search rules in
    record {
      few = omega arith;
      enough = omega (arith, seven);
      once = once;
      of_hole = c.none.ensures;
      all = c.tally.ensures c.args.board c.of-suits.ensures once;
      suited = c.longest.ensures c.args.board c.of-suits.ensures once (omega (arith, seven));
      near = c.all.ensures;
    }
