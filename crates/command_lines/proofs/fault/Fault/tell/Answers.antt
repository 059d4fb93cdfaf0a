use Rattle.std.proofs.Common.{rules}
use Rattle.command_lines.proofs.fault.Fault.tell.Goals as goal

pub returns-clause-line : goal.returns-clause-line
returns-clause-line c = search rules
