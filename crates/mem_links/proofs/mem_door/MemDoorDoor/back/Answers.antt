use Rattle.std.proofs.Common.{rules}
use Rattle.mem_links.proofs.mem_door.MemDoorDoor.back.Goals as goal

pub returns-clause-told : goal.returns-clause-told
returns-clause-told c = search rules
