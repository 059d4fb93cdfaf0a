use Rattle.std.proofs.Common.{rules, arith}
use Rattle.std.proofs.lemmas.Grind.{common_steps}
use Rattle.mem_links.proofs.mem_link.MemLinkLink.take.Goals as goal

pub returns-in-Bytes-clause-after : goal.returns-in-Bytes-clause-after
returns-in-Bytes-clause-after c = grind (arith, common_steps)

pub returns-in-Bytes-clause-end : goal.returns-in-Bytes-clause-end
returns-in-Bytes-clause-end c = search rules

pub returns-in-Bytes-clause-told : goal.returns-in-Bytes-clause-told
returns-in-Bytes-clause-told c = grind (arith, common_steps)

pub returns-in-Idle-clause-told : goal.returns-in-Idle-clause-told
returns-in-Idle-clause-told c = search rules
