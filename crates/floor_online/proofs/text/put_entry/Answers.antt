use Rattle.std.proofs.Common.{rules}
use Rattle.floor_online.proofs.text.put_entry.Goals as goal

pub returns-clause-bytes : goal.returns-clause-bytes
returns-clause-bytes g c = search rules
