use Rattle.std.proofs.Common.{◌++◌, ◌<◌, Some, refl, subst, sym}
use Rattle.std.specs.Prelude.{IfSome}
use Rattle.hand_rank.specs.Held.{hands, count_of_some_suit, IsBestIn}
use Rattle.hand_rank.proofs.StraightLaws.{straight_flush-best, no-straight_flush}
use Rattle.hand_rank.proofs.held.Held.straight_flush.Goals as goal

pub returns-in_err-top : goal.returns-in_err-top
returns-in_err-top c hole board is =
    no-straight_flush c.args.self hole board c.run.result c.from_residual.result is
    (c.run.ensures.highest hole (count_of_some_suit is.suited.suit (hole ++ board)) is.near is.suited.ranks)
    c.in_err-top.was
    c.from_residual.ensures

pub of_run-requires : goal.of_run-requires
of_run-requires c = record {
  one = refl;
  within = subst (λ o. IfSome o (λ top. top < 16)) c.in_ok-top.was c.run.ensures.within;
}

pub returns : goal.returns
returns c hole board is =
    subst (λ v. IsBestIn 8 (Some v) (hands hole board)) (sym c.of_run.ensures)
    (straight_flush-best c.args.self hole board c.in_ok-top.top c.run.result is
    (c.run.ensures.highest hole (count_of_some_suit is.suited.suit (hole ++ board)) is.near is.suited.ranks)
    c.in_ok-top.was)
