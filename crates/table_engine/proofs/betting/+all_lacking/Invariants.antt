use Rattle.std.proofs.Common.{length}
use Rattle.table_engine.proofs.betting.+all_lacking.Given as goal

abbrev pub decreases-all_lacking : goal.decreases-all_lacking
decreases-all_lacking l = length l.players.now
