use Rattle.std.proofs.Common.{arith}
use Rattle.place_list.proofs.TieBlocks.{tie_before-end, next-begins, tie-goes_on}
use Rattle.place_list.proofs.tie.Tie.next.Goals as goal

pub overflow_add-self : goal.overflow_add-self
overflow_add-self c = (let end = tie_before-end c.args.busts.now c.args.self c.args.index c.requires.before in
    omega (arith, end, c.requires.most))

pub returns-then-index-self : goal.returns-then-index-self
returns-then-index-self c =
    next-begins c.args.busts.now c.args.self c.at.result c.args.index c.requires.placed c.requires.within
    c.requires.before c.if-index-self.true c.at.ensures.first c.at.ensures.players

pub returns-else-index-self : goal.returns-else-index-self
returns-else-index-self c =
    tie-goes_on c.args.busts.now c.args.self c.args.index c.requires.before c.if-index-self.false
