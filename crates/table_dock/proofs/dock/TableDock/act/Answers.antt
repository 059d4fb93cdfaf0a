use Rattle.std.proofs.Common.{rules}
use Rattle.table_dock.proofs.dock.TableDock.act.Goals as goal

pub leave-pass-requires-clause-grown : goal.leave-pass-requires-clause-grown
leave-pass-requires-clause-grown c = search rules

pub returns-clause-stands : goal.returns-clause-stands
returns-clause-stands c = search rules
