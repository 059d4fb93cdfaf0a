use Rattle.simulation_rules.proofs.OrdersAccepted.{owed_order_is_accepted}
use Rattle.simulation_rules.proofs.laws.an_owed_order_is_accepted.Goals as goal

pub returns : goal.returns
returns c = owed_order_is_accepted
