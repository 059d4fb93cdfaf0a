use Rattle.std.proofs.Common.{◌++◌, ◌<◌, Some, refl, subst, sym}
use Rattle.std.specs.Prelude.{IfSome}
use Rattle.hand_rank.specs.Held.{hands, IsBestIn}
use Rattle.hand_rank.specs.Values.{count_of_rank}
use Rattle.hand_rank.proofs.StraightLaws.{straight-best, no-straight}
use Rattle.hand_rank.proofs.held.Held.straight.Goals as goal

pub returns-in_err-top : goal.returns-in_err-top
returns-in_err-top c hole board is =
    no-straight c.args.self hole board c.run.result c.from_residual.result is
    (c.run.ensures.highest hole (count_of_rank (hole ++ board)) is.near is.all.of_once) c.in_err-top.was
    c.from_residual.ensures

pub of_run-requires : goal.of_run-requires
of_run-requires c = record {
  one = refl;
  within = subst (λ o. IfSome o (λ top. top < 16)) c.in_ok-top.was c.run.ensures.within;
}

pub returns : goal.returns
returns c hole board is =
    subst (λ v. IsBestIn 4 (Some v) (hands hole board)) (sym c.of_run.ensures)
    (straight-best c.args.self hole board c.in_ok-top.top c.run.result is
    (c.run.ensures.highest hole (count_of_rank (hole ++ board)) is.near is.all.of_once) c.in_ok-top.was)
