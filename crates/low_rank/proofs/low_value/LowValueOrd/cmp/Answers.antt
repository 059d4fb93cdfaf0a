use Rattle.std.proofs.Common.{rules}
use Rattle.low_rank.proofs.low_value.LowValueOrd.cmp.Goals as goal

pub returns : goal.returns
returns c = search rules
