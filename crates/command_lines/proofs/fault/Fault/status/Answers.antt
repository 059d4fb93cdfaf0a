use Rattle.std.proofs.Common.{rules}
use Rattle.command_lines.proofs.fault.Fault.status.Goals as goal

pub returns-in-Hall : goal.returns-in-Hall
returns-in-Hall c = search rules
