use Rattle.std.proofs.Common.{◌≡◌, ◌∙◌, ◌&&◌, not, Some, length, refl, subst, sym, arith}
use Rattle.std.specs.Prelude.{IfSome}
use Rattle.hand_rank.specs.Held.{hands, IsBestIn}
use Rattle.hand_rank.specs.Sets.{has_rank, ranks_of}
use Rattle.hand_rank.specs.Values.{category_number}
use Rattle.hand_rank.proofs.ShapeLaws.{form-is}
use Rattle.hand_rank.proofs.ShapedLaws.{shaped-best, shaped-none, shaped-lost}
use Rattle.hand_rank.proofs.SoManyLaws.{greatest-same}
use Rattle.hand_rank.proofs.held.Held.shaped.Goals as goal

pub leaders-requires : goal.leaders-requires
leaders-requires c =
    let form = form-is (category_number c.args.category) c.args.most.ranks c.args.most.each c.args.others.ranks
    c.args.others.each c.requires.shape c.requires.form in
    record { some = form.others; each = form.some; less = form.less; high = form.times }

pub ranks-requires : goal.ranks-requires
ranks-requires c =
    let form = form-is (category_number c.args.category) c.args.most.ranks c.args.most.each c.args.others.ranks
    c.args.others.each c.requires.shape c.requires.form in
    let less = form.less in
    let times = form.times in
    record { low = form.some; high = omega (arith, less, times) }

pub returns-in_err-leaders : goal.returns-in_err-leaders
returns-in_err-leaders c hole board is =
    shaped-none (category_number c.args.category) c.args.most.ranks c.args.most.each c.args.others.ranks
    c.args.others.each c.args.self hole board c.leaders.result c.from_residual.result
    (form-is (category_number c.args.category) c.args.most.ranks c.args.most.each c.args.others.ranks
    c.args.others.each c.requires.shape c.requires.form) is (c.leaders.ensures.greatest hole board is)
    c.in_err-leaders.was c.from_residual.ensures

pub of-requires : goal.of-requires
of-requires c =
    let form = form-is (category_number c.args.category) c.args.most.ranks c.args.most.each c.args.others.ranks
    c.args.others.each c.requires.shape c.requires.form in
    let most = subst (λ o. IfSome o (λ set. length (ranks_of set.bits) ≡ c.args.most.ranks)) c.in_ok-leaders.was
    c.leaders.ensures.many in
    let others = (c.in_ok-others.ensures.is.are c.in_ok-others.others refl).many in
    let few = form.few in
    record { most = most ∙ sym form.most; few = omega arith }

pub returns-in_err-others : goal.returns-in_err-others
returns-in_err-others c hole board is =
    shaped-lost (category_number c.args.category) c.args.most.ranks c.args.most.each c.args.others.ranks
    c.args.others.each c.args.self hole board c.in_ok-leaders.leaders c.ranks.result c.leaders.result
    c.greatest_with.result c.from_residual-in_err-others.result
    (form-is (category_number c.args.category) c.args.most.ranks c.args.most.each c.args.others.ranks
    c.args.others.each c.requires.shape c.requires.form) is (c.ranks.ensures _ is.all)
    (c.leaders.ensures.greatest hole board is) c.in_ok-leaders.was
    (greatest-same c.greatest_with.result (has_rank c.minus-beside.result.bits)
    (λ r. has_rank c.ranks.result.bits r && not (has_rank c.in_ok-leaders.leaders.bits r))
    (has_rank c.minus.result.bits)
    (λ r. has_rank c.args.self.hole.once.bits r && not (has_rank c.in_ok-leaders.leaders.bits r))
    c.args.others.ranks c.minus-beside.ensures c.minus.ensures c.greatest_with.ensures)
    c.in_err-others.was c.from_residual-in_err-others.ensures

pub returns : goal.returns
returns c hole board is =
    subst (λ v. IsBestIn (category_number c.args.category) (Some v) (hands hole board)) (sym c.of.ensures)
    (shaped-best (category_number c.args.category) c.args.most.ranks c.args.most.each c.args.others.ranks
    c.args.others.each c.args.self hole board c.in_ok-leaders.leaders c.in_ok-others.others c.ranks.result
    c.leaders.result (Some c.in_ok-others.others)
    (form-is (category_number c.args.category) c.args.most.ranks c.args.most.each c.args.others.ranks
    c.args.others.each c.requires.shape c.requires.form) is (c.ranks.ensures _ is.all)
    (c.leaders.ensures.greatest hole board is) c.in_ok-leaders.was
    (greatest-same (Some c.in_ok-others.others) (has_rank c.minus-beside.result.bits)
    (λ r. has_rank c.ranks.result.bits r && not (has_rank c.in_ok-leaders.leaders.bits r))
    (has_rank c.minus.result.bits)
    (λ r. has_rank c.args.self.hole.once.bits r && not (has_rank c.in_ok-leaders.leaders.bits r))
    c.args.others.ranks c.minus-beside.ensures c.minus.ensures c.in_ok-others.ensures)
    refl)
