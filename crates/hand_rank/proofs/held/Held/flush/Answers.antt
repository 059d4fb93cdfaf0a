use Rattle.std.proofs.Common.{Some, subst, refl, sym, arith}
use Rattle.hand_rank.specs.Held.{hands, IsBestIn}
use Rattle.hand_rank.proofs.SingleLaws.{flush-best, no-flush}
use Rattle.hand_rank.proofs.held.Held.flush.Goals as goal

pub of_distinct-requires : goal.of_distinct-requires
of_distinct-requires c =
    let five = (c.in_ok-ranks.ensures.is.are c.in_ok-ranks.ranks refl).many in record { none = refl; few = omega arith }

pub returns-in_err-ranks : goal.returns-in_err-ranks
returns-in_err-ranks c hole board is =
    no-flush c.args.self hole board c.greatest_with.result c.from_residual.result is c.greatest_with.ensures
    c.in_err-ranks.was c.from_residual.ensures

pub returns : goal.returns
returns c hole board is =
    subst (λ v. IsBestIn 5 (Some v) (hands hole board)) (sym c.of_distinct.ensures)
    (flush-best c.args.self hole board c.in_ok-ranks.ranks is c.in_ok-ranks.ensures)
