use Rattle.line_tellers.proofs.AtErrors.{no_ok}
use Rattle.floor_offline.proofs.simulate.simulate.Goals as goal

pub returns-in_err-bytes-clause-end : goal.returns-in_err-bytes-clause-end
returns-in_err-bytes-clause-end g c = no_ok c.from_residual.result _ _ c.from_residual.ensures.1

pub returns-in_err-bytes-clause-text : goal.returns-in_err-bytes-clause-text
returns-in_err-bytes-clause-text g c = no_ok c.from_residual.result _ _ c.from_residual.ensures.1

pub returns-in_err-bytes-clause-right : goal.returns-in_err-bytes-clause-right
returns-in_err-bytes-clause-right g c = no_ok c.from_residual.result _ _ c.from_residual.ensures.1

pub returns-in_err-bytes-clause-within : goal.returns-in_err-bytes-clause-within
returns-in_err-bytes-clause-within g c = no_ok c.from_residual.result _ _ c.from_residual.ensures.1

pub returns-in_err-bytes-clause-let_go : goal.returns-in_err-bytes-clause-let_go
returns-in_err-bytes-clause-let_go g c = no_ok c.from_residual.result _ _ c.from_residual.ensures.1

pub returns-in_err-plan-clause-end : goal.returns-in_err-plan-clause-end
returns-in_err-plan-clause-end g c = no_ok c.from_residual-in_err-plan.result _ _ c.from_residual-in_err-plan.ensures.1

pub returns-in_err-plan-clause-text : goal.returns-in_err-plan-clause-text
returns-in_err-plan-clause-text g c = no_ok c.from_residual-in_err-plan.result _ _ c.from_residual-in_err-plan.ensures.1

pub returns-in_err-plan-clause-right : goal.returns-in_err-plan-clause-right
returns-in_err-plan-clause-right g c = no_ok c.from_residual-in_err-plan.result _ _ c.from_residual-in_err-plan.ensures.1

pub returns-in_err-plan-clause-within : goal.returns-in_err-plan-clause-within
returns-in_err-plan-clause-within g c = no_ok c.from_residual-in_err-plan.result _ _ c.from_residual-in_err-plan.ensures.1

pub returns-in_err-plan-clause-let_go : goal.returns-in_err-plan-clause-let_go
returns-in_err-plan-clause-let_go g c = no_ok c.from_residual-in_err-plan.result _ _ c.from_residual-in_err-plan.ensures.1

pub returns-in_err-text-clause-end : goal.returns-in_err-text-clause-end
returns-in_err-text-clause-end g c = no_ok c.from_residual-in_err-text.result _ _ c.from_residual-in_err-text.ensures.1

pub returns-in_err-text-clause-text : goal.returns-in_err-text-clause-text
returns-in_err-text-clause-text g c = no_ok c.from_residual-in_err-text.result _ _ c.from_residual-in_err-text.ensures.1

pub returns-in_err-text-clause-right : goal.returns-in_err-text-clause-right
returns-in_err-text-clause-right g c = no_ok c.from_residual-in_err-text.result _ _ c.from_residual-in_err-text.ensures.1

pub returns-in_err-text-clause-within : goal.returns-in_err-text-clause-within
returns-in_err-text-clause-within g c = no_ok c.from_residual-in_err-text.result _ _ c.from_residual-in_err-text.ensures.1

pub returns-in_err-text-clause-let_go : goal.returns-in_err-text-clause-let_go
returns-in_err-text-clause-let_go g c = no_ok c.from_residual-in_err-text.result _ _ c.from_residual-in_err-text.ensures.1

pub returns-in_err-put-clause-end : goal.returns-in_err-put-clause-end
returns-in_err-put-clause-end g c = no_ok c.from_residual-in_err-put.result _ _ c.from_residual-in_err-put.ensures.1

pub returns-in_err-put-clause-text : goal.returns-in_err-put-clause-text
returns-in_err-put-clause-text g c = no_ok c.from_residual-in_err-put.result _ _ c.from_residual-in_err-put.ensures.1

pub returns-in_err-put-clause-right : goal.returns-in_err-put-clause-right
returns-in_err-put-clause-right g c = no_ok c.from_residual-in_err-put.result _ _ c.from_residual-in_err-put.ensures.1

pub returns-in_err-put-clause-within : goal.returns-in_err-put-clause-within
returns-in_err-put-clause-within g c = no_ok c.from_residual-in_err-put.result _ _ c.from_residual-in_err-put.ensures.1

pub returns-in_err-put-clause-let_go : goal.returns-in_err-put-clause-let_go
returns-in_err-put-clause-let_go g c = no_ok c.from_residual-in_err-put.result _ _ c.from_residual-in_err-put.ensures.1
