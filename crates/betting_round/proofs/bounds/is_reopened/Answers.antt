use Rattle.std.proofs.Common.{rules}
use Rattle.betting_round.proofs.bounds.is_reopened.Goals as goal

pub returns-else-not-facing : goal.returns-else-not-facing
returns-else-not-facing c = search rules
