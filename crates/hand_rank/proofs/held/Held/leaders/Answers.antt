use Rattle.std.proofs.Common.{◌∙◌, sym}
use Rattle.hand_rank.proofs.LeaderLaws.{leaders-any, leaders-with, leaders-none}
use Rattle.hand_rank.proofs.SoManyLaws.{many-found}
use Rattle.hand_rank.proofs.held.Held.leaders.Goals as goal

pub returns-then-is_empty-clause-many : goal.returns-then-is_empty-clause-many
returns-then-is_empty-clause-many c = many-found c.greatest_with.result _ _ c.args.most.ranks c.greatest_with.ensures

pub returns-clause-many : goal.returns-clause-many
returns-clause-many c = many-found c.greatest_with-2.result _ _ c.args.most.ranks c.greatest_with-2.ensures

pub returns-then-is_empty-clause-greatest : goal.returns-then-is_empty-clause-greatest
returns-then-is_empty-clause-greatest c hole board is =
    leaders-any hole board c.args.most.ranks c.args.most.each c.args.others.ranks c.args.others.each
    c.leading-leading.result.bits c.ranks-from.result c.empty.result c.greatest_with.result
    (c.ranks-from.ensures _ is.all) (c.leading-leading.ensures hole board is)
    (c.is_empty.ensures.none c.if-is_empty.true)
    c.empty.ensures c.greatest_with.ensures

pub returns-in_err-first-clause-greatest : goal.returns-in_err-first-clause-greatest
returns-in_err-first-clause-greatest c hole board is =
    leaders-none hole board c.args.most.ranks c.args.most.each c.args.others.ranks c.args.others.each
    c.leading-leading.result.bits c.ranks-from.result c.meet.result c.from_residual.result
    (c.ranks-from.ensures _ is.all) (c.leading-leading.ensures hole board is)
    (c.is_empty.ensures.some c.if-is_empty.false) c.meet.ensures (sym c.highest.ensures.rank ∙ c.in_err-first.was)
    c.from_residual.ensures

pub returns-clause-greatest : goal.returns-clause-greatest
returns-clause-greatest c hole board is =
    leaders-with hole board c.args.most.ranks c.args.most.each c.args.others.ranks c.args.others.each
    c.leading-leading.result.bits c.in_ok-first.first c.ranks-from.result c.meet.result c.of.result
    c.greatest_with-2.result (c.ranks-from.ensures _ is.all) (c.leading-leading.ensures hole board is)
    (c.is_empty.ensures.some c.if-is_empty.false) c.meet.ensures (sym c.highest.ensures.rank ∙ c.in_ok-first.was)
    c.of.ensures.ranks c.greatest_with-2.ensures
