use Rattle.std.proofs.Common.{◌∙◌, ◌≤◌, sym, subst, arith}
use Rattle.hand_rank.specs.Sets.{has_rank}
use Rattle.hand_rank.specs.SoMany.{IsGreatestWith}
use Rattle.hand_rank.proofs.PickLaws.{highest-is, highest-none}
use Rattle.hand_rank.proofs.Sections.{falling-none}
use Rattle.hand_rank.proofs.SoManyLaws.{some-rank, both-are, none-left, taken-none, taken-more, taken-all, taken-greatest, greatest-none}
use Rattle.hand_rank.proofs.rank_set.RankSet.greatest_with.Goals as goal

pub returns-then-not-is_empty : goal.returns-then-not-is_empty
returns-then-not-is_empty c =
    greatest-none (has_rank c.args.self.bits) (has_rank c.args.forced.bits) c.args.count (λ inside low high.
    let some = some-rank c.minus.result.bits (c.is_empty.ensures.some c.if-not-is_empty.true) in
    let lost = both-are _ _ (sym (c.minus.ensures some.0 some.1) ∙ some.2) in
    let is = inside some.0 some.1 lost.0 in
    let is_not = lost.1 in
    absurd cc)

pub loop-init : goal.loop-init
loop-init c =
    taken-none (has_rank c.args.self.bits) (has_rank c.args.forced.bits) (has_rank c.minus-free.result.bits)
    (λ r below is. none-left (has_rank c.args.forced.bits r) (has_rank c.args.self.bits r)
    (sym (c.minus.ensures r below)
    ∙ falling-none (has_rank c.minus.result.bits) 16 r (c.is_empty.ensures.none c.if-not-is_empty.false) below) is)
    c.minus-free.ensures

pub returns-in_err-missing : goal.returns-in_err-missing
returns-in_err-missing c =
    subst (λ o. IsGreatestWith o (has_rank c.args.self.bits) (has_rank c.args.forced.bits) c.args.count)
    (sym c.from_residual.ensures)
    (greatest-none (has_rank c.args.self.bits) (has_rank c.args.forced.bits) c.args.count (λ inside low high.
    let many = c.count.ensures in
    let more : c.count.result ≤ c.args.count = omega (arith, many, low) in
    c.in_err-missing.ensures more))

pub returns-in_err-rank : goal.returns-in_err-rank
returns-in_err-rank c =
    subst (λ o. IsGreatestWith o (has_rank c.args.self.bits) (has_rank c.args.forced.bits) c.args.count)
    (sym c.from_residual-in_err-rank.ensures)
    (greatest-none (has_rank c.args.self.bits) (has_rank c.args.forced.bits) c.args.count (λ inside low high.
    let all = taken-all (has_rank c.args.self.bits) (has_rank c.args.forced.bits) (has_rank c.loop.ranks.bits)
    (has_rank c.loop.free.bits) c.loop.counter c.loop.invariant
    (λ r below. highest-none (has_rank c.loop.free.bits) 16 r
    (sym c.highest.ensures.rank ∙ c.in_err-rank.was) below) in
    omega (arith, c.loop-test.true, c.in_ok-missing.ensures, c.count.ensures, all, high)))

pub loop-preserved : goal.loop-preserved
loop-preserved c =
    taken-more (has_rank c.args.self.bits) (has_rank c.args.forced.bits) (has_rank c.loop.ranks.bits)
    (has_rank c.loop.free.bits) (has_rank c.with-ranks.result.bits) (has_rank c.without-free.result.bits) c.loop.counter
    c.in_ok-rank.rank c.loop.invariant
    (highest-is (has_rank c.loop.free.bits) 16 c.in_ok-rank.rank (sym c.highest.ensures.rank ∙ c.in_ok-rank.was))
    c.without-free.ensures c.with-ranks.ensures

pub returns : goal.returns
returns c =
    taken-greatest c.loop.ranks (has_rank c.args.self.bits) (has_rank c.args.forced.bits) (has_rank c.loop.free.bits)
    c.args.count c.loop.counter c.loop.invariant
    (omega (arith, c.loop-test.false, c.loop.auto.counter-end, c.in_ok-missing.ensures, c.count.ensures))
