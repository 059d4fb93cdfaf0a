use Rattle.std.proofs.Common.{◌≡◌, ◌-◌, ◌∙◌, ap, refl, rules, arith}
use Rattle.std.specs.Prelude.{bit_and}
use Rattle.low_rank.specs.LowRanks.{without_one, without_least}
use Rattle.low_rank.proofs.BitLaws.{without_least-low, without_least-next}
use Rattle.low_rank.proofs.low_ranks.LowRanks.without_least.Goals as goal

pub loop-init : goal.loop-init
unfolding without_least
loop-init c = refl

pub loop-preserved : goal.loop-preserved
loop-preserved c =
    let less : c.saturating_sub-bits.result ≡ c.loop.bits - 1 = search rules in
    ap (bit_and c.loop.bits) less ∙ ap without_one c.loop.invariant ∙ without_least-next c.loop.counter c.args.self.bits

pub invariant_of-result : goal.invariant_of-result
invariant_of-result c =
    record { low = omega (arith, c.loop.invariant, without_least-low c.loop.counter c.args.self.bits, c.args.self.low) }

pub returns : goal.returns
returns c =
    let end : c.loop.counter ≡ c.args.count = omega arith in
    c.loop.invariant ∙ ap (λ count. without_least count c.args.self.bits) end
