use Rattle.balance_rule.proofs.Balances.{not-back}
use Rattle.balance_rule.proofs.laws.a_balance_is_never_turned_round.Goals as goal

pub returns : goal.returns
returns c = λ seating from to move_ back valid lawful. not-back seating from to move_ valid lawful back
