use Rattle.std.proofs.Common.{rules}
use Rattle.table_dock.proofs.hold.TableHold.close.Goals as goal

pub returns-clause-over : goal.returns-clause-over
returns-clause-over c = search rules
