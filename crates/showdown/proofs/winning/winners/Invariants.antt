use Rattle.std.proofs.Common.{◌≡◌}
use Rattle.pot_layers.proofs.PayersSoFar.{seats_so_far}
use Rattle.showdown.specs.Winners.{wins}
use Rattle.showdown.proofs.winning.winners.Given as goal

abbrev pub invariant-loop-index : goal.invariant-loop-index
invariant-loop-index l = l.winners ≡ seats_so_far (wins l.side l.hands) l.hands l.index
