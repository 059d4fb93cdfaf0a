use Rattle.std.proofs.Common.{rules}
use Rattle.floor_simulation.proofs.steps.after_tables.Goals as goal

pub returns-then-not-is_last_level : goal.returns-then-not-is_last_level
returns-then-not-is_last_level c = search rules
