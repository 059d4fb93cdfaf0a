use Rattle.std.proofs.Common.{rules}
use Rattle.player_view.proofs.teller.keep.Goals as goal

pub returns-in-Played-clause-back : goal.returns-in-Played-clause-back
returns-in-Played-clause-back c = search rules
