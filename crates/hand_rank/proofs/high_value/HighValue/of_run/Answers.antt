use Rattle.std.proofs.Common.{◌++◌, ◌∷◌, ◌∙◌, ap, ap₂, length, sym, arith}
use Rattle.hand_rank.specs.Values.{category_number}
use Rattle.hand_rank.proofs.FiveLaws.{ranks-one}
use Rattle.hand_rank.proofs.SetOrder.{ranks-empty}
use Rattle.hand_rank.proofs.high_value.HighValue.of_run.Goals as goal

pub of-requires-2 : goal.of-requires-2
of-requires-2 c =
    let most = ap length (ranks-one c.of.result.bits c.args.top c.requires.within c.of.ensures.ranks) in
    let none = ap length (ranks-empty c.empty.result.bits c.empty.ensures) in
    record { most = most ∙ sym c.requires.one; few = omega arith }

pub returns : goal.returns
returns c =
    c.of-2.ensures
    ∙ ap₂ (λ xs ys. category_number c.args.category ∷ (xs ++ ys))
    (ranks-one c.of.result.bits c.args.top c.requires.within c.of.ensures.ranks)
    (ranks-empty c.empty.result.bits c.empty.ensures)
