use Rattle.std.proofs.Common.{◌∙◌, [], ◌∷◌, sym}
use Rattle.low_rank.proofs.BitLaws.{five-none, five-some}
use Rattle.low_rank.proofs.low_ranks.LowRanks.five_least.Goals as goal

pub returns-then-without_least-eq0 : goal.returns-then-without_least-eq0
returns-then-without_least-eq0 c =
    five-none c.args.self.bits c.args.self.low (sym c.without_least.ensures ∙ c.if-without_least-eq0.true)

pub returns : goal.returns
returns c =
    five-some c.args.self.bits c.of.result c.args.self.low
    (λ none. c.if-without_least-eq0.false (c.without_least.ensures ∙ none))
    (c.of.ensures
    ∙ λ i. c.rank_above.ensures i ∷ c.rank_above-2.ensures i ∷ c.rank_above-3.ensures i ∷ c.rank_above-4.ensures i
    ∷ c.rank_above-5.ensures i ∷ [])
