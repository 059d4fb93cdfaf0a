use Rattle.std.proofs.Common.{length}
use Rattle.betting_round.proofs.street.+put_by_players.Given as goal

abbrev pub decreases-put_by_players : goal.decreases-put_by_players
decreases-put_by_players l = length l.players.now
