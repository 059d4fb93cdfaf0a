use Rattle.std.proofs.Common.{rules}
use Rattle.hand_rounds.proofs.rounds.may_switch.Goals as goal

pub returns-then-is_any_playing : goal.returns-then-is_any_playing
returns-then-is_any_playing c = search rules
