use Rattle.std.proofs.Common.{◌∙◌, ap, rules}
use Rattle.std.specs.Prelude.{is_none}
use Rattle.table_engine.proofs.DueNames.{due_name-none}
use Rattle.table_engine.proofs.hand.Hand.due.Goals as goal

pub returns-clause-name : goal.returns-clause-name
returns-clause-name c = search rules

pub returns-clause-nobody : goal.returns-clause-nobody
returns-clause-nobody c = ap is_none (returns-clause-name c)
    ∙ due_name-none c.args.self.now (rw (← c.self.view_is) (rw c.self.invariant.at.round at c.self.invariant.there))
