use Rattle.simulation_rules.proofs.OwedOrders.{orders-few, owed_falls}
use Rattle.simulation_rules.proofs.laws.owed_orders_come_to_an_end.Goals as goal

pub returns-clause-falls : goal.returns-clause-falls
returns-clause-falls c = owed_falls

pub returns-clause-few : goal.returns-clause-few
returns-clause-few c = orders-few
