use Rattle.std.proofs.Common.{rules}
use Rattle.pot_layers.proofs.shares.halves.Goals as goal

pub returns-clause-high : goal.returns-clause-high
returns-clause-high c = search rules
