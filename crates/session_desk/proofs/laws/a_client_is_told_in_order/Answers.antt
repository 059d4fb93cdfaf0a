use Rattle.session_desk.proofs.InOrder.{floor-in-order, tables-in-order}
use Rattle.session_desk.proofs.laws.a_client_is_told_in_order.Goals as goal

pub returns-clause-floor : goal.returns-clause-floor
returns-clause-floor c = floor-in-order

pub returns-clause-tables : goal.returns-clause-tables
returns-clause-tables c = tables-in-order
