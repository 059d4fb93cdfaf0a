use Rattle.std.proofs.Common.{rules}
use Rattle.place_list.proofs.order.compare.Goals as goal

pub returns : goal.returns
returns c = search rules
