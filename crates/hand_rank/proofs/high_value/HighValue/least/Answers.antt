use Rattle.std.proofs.Common.{◌∷◌, ◌∙◌, ap, length, refl, arith}
use Rattle.hand_rank.proofs.SetOrder.{ranks-empty}
use Rattle.hand_rank.proofs.high_value.HighValue.least.Goals as goal

pub of_distinct-requires : goal.of_distinct-requires
of_distinct-requires c =
    let none = ap length (ranks-empty c.empty.result.bits c.empty.ensures) in record { none = refl; few = omega arith }

pub returns : goal.returns
returns c = c.of_distinct.ensures ∙ ap (λ xs. 0 ∷ xs) (ranks-empty c.empty.result.bits c.empty.ensures)
