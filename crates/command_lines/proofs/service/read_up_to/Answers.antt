use Rattle.std.proofs.Common.{rules}
use Rattle.command_lines.proofs.service.read_up_to.Goals as goal

pub returns-then-number-most-clause-number : goal.returns-then-number-most-clause-number
returns-then-number-most-clause-number c = search rules
