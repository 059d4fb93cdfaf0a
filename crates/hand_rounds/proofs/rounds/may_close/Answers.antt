use Rattle.std.proofs.Common.{rules}
use Rattle.hand_rounds.proofs.rounds.may_close.Goals as goal

pub returns : goal.returns
returns c = search rules
