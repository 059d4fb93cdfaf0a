use Rattle.std.proofs.Common.{rules}
use Rattle.floor_director.proofs.acts.check_or_fold.Goals as goal

pub returns-then-facing : goal.returns-then-facing
returns-then-facing c = search rules
