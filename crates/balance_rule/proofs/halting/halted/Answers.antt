use Rattle.std.proofs.Common.{rules}
use Rattle.balance_rule.proofs.halting.halted.Goals as goal

pub returns : goal.returns
returns c = search rules
