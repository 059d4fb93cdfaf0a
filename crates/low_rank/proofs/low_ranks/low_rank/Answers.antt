use Rattle.std.proofs.Common.{rules}
use Rattle.low_rank.proofs.low_ranks.low_rank.Goals as goal

pub returns-then-card-eq14-clause-same : goal.returns-then-card-eq14-clause-same
returns-then-card-eq14-clause-same c = search rules
