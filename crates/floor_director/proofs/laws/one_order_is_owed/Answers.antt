use Rattle.floor_director.proofs.OneOrder.{one-order}
use Rattle.floor_director.proofs.laws.one_order_is_owed.Goals as goal

pub returns : goal.returns
returns c = λ seating seed number one other is also. one-order seating seed number one other is also
