use Rattle.std.proofs.Common.{rules}
use Rattle.betting_round.proofs.bounds.PotLimitBounds.most.Goals as goal

pub returns : goal.returns
returns c = search rules
