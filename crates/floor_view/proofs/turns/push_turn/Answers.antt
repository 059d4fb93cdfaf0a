use Rattle.std.proofs.Common.{rules}
use Rattle.floor_view.proofs.turns.push_turn.Goals as goal

pub returns-in-Some-clause-told : goal.returns-in-Some-clause-told
returns-in-Some-clause-told c = search rules
