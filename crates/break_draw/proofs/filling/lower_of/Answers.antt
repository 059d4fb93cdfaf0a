use Rattle.std.proofs.Common.{rules}
use Rattle.break_draw.proofs.filling.lower_of.Goals as goal

pub returns-then-counts-from-clause-lower : goal.returns-then-counts-from-clause-lower
returns-then-counts-from-clause-lower c = search rules
