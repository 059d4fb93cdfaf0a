use Rattle.std.proofs.Common.{rules}
use Rattle.hand_rounds.proofs.rounds.end_round.Goals as goal

pub returns-clause-closed : goal.returns-clause-closed
returns-clause-closed c = search rules
