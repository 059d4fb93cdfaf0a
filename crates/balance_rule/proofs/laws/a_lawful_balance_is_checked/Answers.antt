use Rattle.balance_rule.proofs.Converse.{lawful-checked}
use Rattle.balance_rule.proofs.laws.a_lawful_balance_is_checked.Goals as goal

pub returns : goal.returns
returns c = lawful-checked
