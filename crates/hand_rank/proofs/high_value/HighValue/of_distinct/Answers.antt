use Rattle.std.proofs.Common.{◌++◌, ◌∷◌, ◌∙◌, ap, length, sym, arith}
use Rattle.hand_rank.specs.Sets.{ranks_of}
use Rattle.hand_rank.specs.Values.{category_number}
use Rattle.hand_rank.proofs.SetOrder.{ranks-empty}
use Rattle.hand_rank.proofs.high_value.HighValue.of_distinct.Goals as goal

pub of-requires : goal.of-requires
of-requires c =
    let none = ap length (ranks-empty c.empty.result.bits c.empty.ensures) in
    let few = c.requires.few in
    record { most = none ∙ sym c.requires.none; few = omega arith }

pub returns : goal.returns
returns c =
    c.of.ensures
    ∙ ap (λ xs. category_number c.args.category ∷ xs ++ ranks_of c.args.ranks.bits)
    (ranks-empty c.empty.result.bits c.empty.ensures)
