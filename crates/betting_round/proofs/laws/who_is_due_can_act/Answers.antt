use Rattle.betting_round.proofs.Turns.{due-can_act, due-may_fold}
use Rattle.betting_round.proofs.laws.who_is_due_can_act.Goals as goal

pub returns-clause-behind : goal.returns-clause-behind
returns-clause-behind c = due-can_act

pub returns-clause-fold : goal.returns-clause-fold
returns-clause-fold c = due-may_fold
