use Rattle.std.proofs.Common.{rules}
use Rattle.player_view.proofs.tabled.is_shown_down.Goals as goal

pub returns-then-is_over : goal.returns-then-is_over
returns-then-is_over c = search rules
