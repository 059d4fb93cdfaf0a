use Rattle.std.proofs.Common.{length}
use Rattle.table_engine.proofs.betting.+all_antes.Given as goal

abbrev pub decreases-all_antes : goal.decreases-all_antes
decreases-all_antes l = length l.players.now
