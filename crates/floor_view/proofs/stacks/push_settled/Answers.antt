use Rattle.std.proofs.Common.{arith}
use Rattle.std.proofs.lemmas.Grind.{common_steps}
use Rattle.floor_view.proofs.stacks.push_settled.Goals as goal

pub returns-in_err-stacks-clause-kept : goal.returns-in_err-stacks-clause-kept
returns-in_err-stacks-clause-kept c = grind (arith, common_steps)
