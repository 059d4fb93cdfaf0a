use Rattle.std.proofs.lemmas.Result.{err_from_is_err_and}
use Rattle.betting_round.proofs.ActRefusals.{refused_act, refused_turn}
use Rattle.betting_round.proofs.street.Street.check.Goals as goal

pub returns-in_err-check_turn-clause-err : goal.returns-in_err-check_turn-clause-err
returns-in_err-check_turn-clause-err g c =
    let refused = refused_turn (g.B.Bounds.limits c.args.bounds.now) c.args.self.now c.args.seat c.args.act _
    c.in_err-check_turn.ensures.turn in
    let exit = err_from_is_err_and c.from_residual.result c.from_residual.ensures.1 in rw (exit.1, exit.2) refused

pub returns-in_err-check_act-clause-err : goal.returns-in_err-check_act-clause-err
returns-in_err-check_act-clause-err g c =
    let checked = rw c.facing-facing.ensures at c.in_err-check_act.ensures.checked in
    let refused = refused_act (g.B.Bounds.limits c.args.bounds.now) c.args.self.now c.args.seat c.args.act _
    c.in_ok-check_turn.ensures.turn checked in
    let exit = err_from_is_err_and c.from_residual-in_err-check_act.result c.from_residual-in_err-check_act.ensures.1 in
    rw (exit.1, exit.2) refused
