use Rattle.whole_laws.proofs.Between.{settled-between}
use Rattle.whole_laws.proofs.laws.each_hand_is_settled_before_the_next.Goals as goal

pub returns : goal.returns
returns c = settled-between
