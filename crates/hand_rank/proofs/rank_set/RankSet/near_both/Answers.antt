use Rattle.std.proofs.Common.{◌≡◌, ◌+◌, ◌∙◌, ◌&&◌, eqb, cond, sym, subst}
use Rattle.std.proofs.lemmas.Bool.{ne_eqb}
use Rattle.hand_rank.specs.Values.{count_of_rank}
use Rattle.hand_rank.proofs.NearLaws.{near-none, near-both}
use Rattle.hand_rank.proofs.rank_set.RankSet.near_both.Goals as goal

pub returns-then-one-other : goal.returns-then-one-other
returns-then-one-other c hole counts =
    near-none c.args.one c.empty.result.bits hole
    (λ r. subst (λ s. count_of_rank hole r ≡ cond (eqb c.args.one r) 1 0 + cond (eqb s r) 1 0)
    (sym c.if-one-other.true) (counts r)) c.empty.ensures

pub returns-else-one-other : goal.returns-else-one-other
returns-else-one-other c hole counts =
    near-both c.args.one c.args.other c.meet.result.bits hole c.requires.one c.requires.other
    (ne_eqb c.args.one c.args.other c.if-one-other.false) counts
    (λ r below. c.meet.ensures r ∙ (λ i. c.near.ensures r below i && c.near-else-one-other.ensures r below i))
