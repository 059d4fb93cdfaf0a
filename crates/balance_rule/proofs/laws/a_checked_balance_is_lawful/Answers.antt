use Rattle.balance_rule.proofs.Balances.{checked-lawful}
use Rattle.balance_rule.proofs.laws.a_checked_balance_is_lawful.Goals as goal

pub returns : goal.returns
returns c = checked-lawful
