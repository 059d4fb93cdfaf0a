use Rattle.std.proofs.Common.{◌≡◌, ℕ, subst, arith}
use Rattle.std.proofs.lemmas.Grind.{common_steps}
use Rattle.hand_rank.specs.Sets.{has_rank}
use Rattle.hand_rank.proofs.KindLaws.{is_found, found-all}
use Rattle.hand_rank.proofs.five_cards.ranks_that_occur.Goals as goal

pub returns : goal.returns
returns c cards counted =
    let end : c.loop-rank.rank ≡ 15 = omega (arith, c.loop-rank-test.false, c.loop-rank.auto.rank-end) in
    found-all c.args.counts.now c.args.often c.loop-rank.ranks.bits cards c.requires counted
    (subst (λ n. (rank : ℕ) → has_rank c.loop-rank.ranks.bits rank ≡ is_found c.args.counts.now c.args.often n rank) end
    c.loop-rank.invariant)

pub loop-rank-preserved : goal.loop-rank-preserved
loop-rank-preserved c = grind (arith, common_steps)
